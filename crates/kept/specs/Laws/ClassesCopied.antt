-- Class numbers copied one after another from an array into another: of as many as were copied, both hold the same
-- placement. The first cover's classes are copied so into a position. Assumes nothing.
use Rattle.std.specs.Prelude.{ℕ, zero, suc, ◌≤◌, ◌<◌, ◌≡◌, refl, List, length, get_or, set}
use Rattle.std.proofs.Common.{◌∙◌, ⊎_elim, le_of_lt, not-suc-le-zero, arith, get_or-set_same, get_or-set_other}
use Rattle.bits.specs.Laws.Below.{last_or_below}
use Rattle.lists.specs.LatestFirst.{latest_first}

-- the first n numbers were copied
pub record ClassesCopied (from to : List ℕ) (n : ℕ) : Type 0 where
  pub same : {i : ℕ} → i < n → get_or to i 0 ≡ get_or from i 0

-- at first none was
pub none_copied : (from to : List ℕ) → ClassesCopied from to 0
none_copied from to = record { same = λ l. absurd (not-suc-le-zero l) }

-- one more
pub one_copied : {from to : List ℕ} {n : ℕ} → ClassesCopied from to n → n < length to
    → ClassesCopied from (set to n (get_or from n 0)) (suc n)
one_copied {from} {to} {n} c l =
    record {
      same = λ {i} k.
          ⊎_elim
          (λ (e : i ≡ n). rw e (get_or-set_same to n (get_or from n 0) 0 l))
          (λ (h : i < n). get_or-set_other to n i (get_or from n 0) 0 (omega arith) ∙ c.same h)
          (last_or_below k);
    }

-- both hold the same placement of as many as were copied, or of fewer
pub copied_placement : {from to : List ℕ} {n : ℕ} → ClassesCopied from to n → (m : ℕ) → m ≤ n
    → latest_first to m ≡ latest_first from m
copied_placement c zero l = refl
copied_placement c (suc m) l = rw (c.same l, copied_placement c m (le_of_lt l))
