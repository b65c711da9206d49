-- `adler::adler_32`: the sums so far, gone on over the bytes that follow, are the sums of all bytes.
use Rattle.std.proofs.Common.{◌≡◌, ◌<◌, drop}
use Rattle.adler.specs.Adler.{adler_base, adler_from, adler_32}
use Rattle.adler.proofs.adler.adler_32.Given as goal

abbrev pub invariant-loop-b : goal.invariant-loop-b
invariant-loop-b l =
    (l.low < adler_base) × (l.high < adler_base)
    × (adler_from l.low l.high (drop l.b-index l.s) ≡ adler_32 l.s)
