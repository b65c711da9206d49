-- `buckets::meets_bucket`: with no name met in the words before k, the word k is next.
use Rattle.std.proofs.Common.{ℕ, ◌+◌, ◌*◌, refl, sym, ◌∙◌, Bool, List, get_or}
use Rattle.spec.specs.Text.{Bytes}
use Rattle.bits.specs.Truth.{or_fails}
use Rattle.bits.specs.Counting.{some_below}
use Rattle.bits.specs.Laws.Below.{some_below_intro}
use Rattle.bits.specs.Laws.Step.{some_below_step}
use Rattle.bits.specs.Bit.{word_bits}
use Rattle.buckets.specs.Buckets.{bucket_words, meets_word}
use Rattle.buckets.proofs.buckets.meets_bucket.Goals as goal

-- whether the word k has a name that is met
abbrev met : Bytes → List ℕ → List ℕ → ℕ → Bytes → ℕ → Bool
met text places table bucket name k =
    meets_word text places (get_or table (bucket * bucket_words + k) 0) (k * word_bits) name

pub loop-k-init : goal.loop-k-init
unfolding some_below
loop-k-init c = refl

pub returns-then-meets_word : goal.returns-then-meets_word
returns-then-meets_word c =
    let a = c.args in
    sym (some_below_intro a.words (met a.s.now a.places.now a.table.now a.bucket a.name.now) {i = c.loop-k.k}
    c.loop-k-test.true (sym c.meets_word.ensures ∙ c.if-meets_word.true))

pub loop-k-preserved : goal.loop-k-preserved
loop-k-preserved c =
    let a = c.args in
    let test : ℕ → Bool = met a.s.now a.places.now a.table.now a.bucket a.name.now in
    some_below_step c.loop-k.k test
    ∙ or_fails (test c.loop-k.k) (some_below c.loop-k.k test) (sym c.meets_word.ensures ∙ c.if-meets_word.false)
    c.loop-k.invariant
