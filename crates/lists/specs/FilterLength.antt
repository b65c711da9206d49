-- How long the part of a list that passes a test is: never longer than the list, and shorter where a member fails the
-- test. Each law is an induction on the list.
use Rattle.std.specs.Prelude.{suc, ◌≤◌, ◌<◌, ◌≡◌, ◌⊎◌, Bool, true, false, length}
use Rattle.std.proofs.Common.{arith, inl, inr}
use mathlib.Core.List.Memᴰ
use mathlib.Core.List.{List, [], ◌∷◌, Memᴰ}
use Rattle.spec.specs.Vocabulary.{keep, filter}

module _ {A : Type 0} where
  keep_length : (b : Bool) (a : A) (rest : List A) → length (keep b a rest) ≤ suc (length rest)
  keep_length true a rest = omega arith
  keep_length false a rest = omega arith

  pub filter_length : (test : A → Bool) (l : List A) → length (filter test l) ≤ length l
  filter_length test [] = omega arith
  filter_length test (a ∷ rest) = omega (arith, keep_length (test a) a (filter test rest), filter_length test rest)

  pub filter_shorter : (test : A → Bool) (l : List A) {a : A} → Memᴰ a l → test a ≡ false
      → length (filter test l) < length l
  filter_shorter test [] m f = absurd (Memᴰ.not-nil m)
  filter_shorter test (b ∷ rest) {a} m f = choose (λ n. filter_shorter test rest n f) (Memᴰ.cases_cons m)
    where
      choose : (Memᴰ a rest → length (filter test rest) < length rest) → (a ≡ b) ⊎ Memᴰ a rest
          → length (filter test (b ∷ rest)) < length (b ∷ rest)
      choose later (inl e) = rw (rw e at f) (omega (arith, filter_length test rest))
      choose later (inr n) = omega (arith, keep_length (test b) b (filter test rest), later n)
