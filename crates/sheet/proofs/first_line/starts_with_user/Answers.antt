-- `first_line::starts_with_user`: a shorter text does not, and of another its first four bytes decide.
use Rattle.std.proofs.Common.{length, lt-ltb, le-ltb}
use Rattle.std.proofs.lemmas.Bool.{lt-leb}
use Rattle.sheet.specs.FirstLine.{says_user}
use Rattle.sheet.proofs.first_line.starts_with_user.Goals as goal

pub returns-then-s-ge-USER_LENGTH : goal.returns-then-s-ge-USER_LENGTH
unfolding says_user
returns-then-s-ge-USER_LENGTH c =
    rw (le-ltb (length c.args.s.now) 4 c.if-s-ge-USER_LENGTH.true) c.is_user.ensures

pub returns-else-s-ge-USER_LENGTH : goal.returns-else-s-ge-USER_LENGTH
unfolding says_user
returns-else-s-ge-USER_LENGTH c =
    rw (lt-ltb (length c.args.s.now) 4 c.if-s-ge-USER_LENGTH.false)
    (lt-leb 4 (length c.args.s.now) c.if-s-ge-USER_LENGTH.false)
