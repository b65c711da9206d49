-- `same::same_bytes`: what `==` answers of two slices is what `same_bytes` says of the bytes that they hold.
-- The search finds it unasked. It is written down for the planted mistake `greater_bytes_are_the_same`, which compares
-- the two by `zip` and `all` and needs a proof of its own: what it puts in the place of these lines proves that the
-- lengths and each two bytes at one place decide it, and fails at `>=` alone.
use Rattle.text.proofs.same.same_bytes.Goals as goal

pub returns : goal.returns
returns c = c.eq.ensures
