-- Grants paired with the classes of a placement. The placement has the latest grant first, so a list of grants is
-- paired backwards: then number i of the list stands with the class that the placement gives number i. Each law is an
-- induction on the list read backwards.
use Rattle.std.specs.Prelude.{ℕ, suc, ◌<◌, ◌≡◌, refl, false, length}
use Rattle.std.proofs.Common.{le_refl, lt_trans, not-suc-le-zero, arith, sym, ap, ◌∙◌, ⊎_elim}
use Rattle.std.proofs.Math.Nat.{le_step, suc_inj}
use mathlib.Core.List.Memᴰ
use mathlib.Core.List.{List, [], ◌∷◌, reverse, reverse-reverse, Memᴰ}
use Rattle.std.proofs.lemmas.List.{length-reverse}
use Rattle.spec.specs.Sheet.{Grant, same_grant}
use Rattle.spec.specs.Cover.{grant_at}
use Rattle.spec.specs.Roles.{Classed, paired, class_of}
use Rattle.bits.specs.Laws.Below.{last_or_below}
use Rattle.lists.specs.ReverseLaws.{reverse_first_is_last, reverse_rest_keeps}
use Rattle.lists.specs.Classing.{class_in}
use Rattle.lists.specs.PlacementLaws.{class_in_latest, class_in_earlier}
use Rattle.cells.specs.Laws.Grant.{same_grant_refl}
use Rattle.cells.specs.Laws.Number.{Different}

-- a number of a list of grants, with its class in a placement
pub record PairedAt (grants : List Grant) (placed : List ℕ) (x : Classed) : Type 0 where
  pub number : ℕ
  pub within : number < length placed
  pub grant : x.grant ≡ grant_at grants number
  pub class : x.class ≡ class_in placed number

-- a grant with a class, by its parts
same_classed : {x y : Classed} → x.grant ≡ y.grant → x.class ≡ y.class → x ≡ y
same_classed grant class = λ i. record { grant = grant i; class = class i }

-- the grant and the class of an earlier number, and of the latest
earlier_grant : (g : Grant) (later : List Grant) (placed : List ℕ) → length later ≡ length placed → {i : ℕ}
    → i < length placed
    → grant_at (reverse (g ∷ later)) i ≡ grant_at (reverse later) i
earlier_grant g later placed e l = reverse_rest_keeps g later (record { user = 0; permission = 0 }) (rw e l)

latest_grant : (g : Grant) (later : List Grant) (placed : List ℕ) → length later ≡ length placed
    → grant_at (reverse (g ∷ later)) (length placed) ≡ g
latest_grant g later placed e = rw (← e) (reverse_first_is_last g later (record { user = 0; permission = 0 }))

-- a list read backwards, paired
backwards_only : (backwards : List Grant) (placed : List ℕ) → length backwards ≡ length placed → {x : Classed}
    → Memᴰ x (paired backwards placed) → PairedAt (reverse backwards) placed x
backwards_only [] placed e m = absurd (Memᴰ.not-nil m)
backwards_only (g ∷ later) [] e m = absurd (Memᴰ.not-nil m)
backwards_only (g ∷ later) (a ∷ placed) e {x} m =
    ⊎_elim latest (λ n. earlier (backwards_only later placed (suc_inj e) n)) (Memᴰ.cases_cons m)
  where
    latest : x ≡ record { grant = g; class = a } → PairedAt (reverse (g ∷ later)) (a ∷ placed) x
    latest s =
        record {
          number = length placed;
          within = le_refl (suc (length placed));
          grant = ap (λ y. y.grant) s ∙ sym (latest_grant g later placed (suc_inj e));
          class = ap (λ y. y.class) s ∙ sym (class_in_latest a placed refl);
        }

    earlier : PairedAt (reverse later) placed x → PairedAt (reverse (g ∷ later)) (a ∷ placed) x
    earlier r =
        record {
          number = r.number;
          within = le_step r.within;
          grant = r.grant ∙ sym (earlier_grant g later placed (suc_inj e) r.within);
          class = r.class ∙ sym (class_in_earlier a placed r.within);
        }

backwards_has : (backwards : List Grant) (placed : List ℕ) → length backwards ≡ length placed → (i : ℕ)
    → i < length placed
    → Memᴰ (record { grant = grant_at (reverse backwards) i; class = class_in placed i }) (paired backwards placed)
backwards_has [] [] e i l = absurd (not-suc-le-zero l)
backwards_has [] (a ∷ placed) e i l = absurd (omega arith)
backwards_has (g ∷ later) [] e i l = absurd (not-suc-le-zero l)
backwards_has (g ∷ later) (a ∷ placed) e i l =
    ⊎_elim
    (λ (s : i ≡ length placed). Memᴰ.head (same_classed (rw s (latest_grant g later placed (suc_inj e)))
    (class_in_latest a placed s)))
    (λ (k : i < length placed). Memᴰ.tail (Memᴰ.cast
    (same_classed (earlier_grant g later placed (suc_inj e) k) (class_in_earlier a placed k))
    (backwards_has later placed (suc_inj e) i k)))
    (last_or_below l)

-- what is paired are the numbers of the list, each with its class
pub paired_only : (grants : List Grant) (placed : List ℕ) → length grants ≡ length placed → {x : Classed}
    → Memᴰ x (paired (reverse grants) placed) → PairedAt grants placed x
paired_only grants placed e m =
    rw (reverse-reverse grants) at (backwards_only (reverse grants) placed (length-reverse grants ∙ e) m)

pub paired_has : (grants : List Grant) (placed : List ℕ) → length grants ≡ length placed → (i : ℕ) → i < length placed
    → Memᴰ (record { grant = grant_at grants i; class = class_in placed i }) (paired (reverse grants) placed)
paired_has grants placed e i l =
    Memᴰ.cast (same_classed (rw (reverse-reverse grants)) refl) (backwards_has (reverse grants) placed
    (length-reverse grants ∙ e) i l)

-- ---- the class of a grant

backwards_class : (backwards : List Grant) (placed : List ℕ) → length backwards ≡ length placed
    → ((i j : ℕ) → i < j → j < length placed → same_grant (grant_at (reverse backwards) i)
    (grant_at (reverse backwards) j) ≡ false)
    → (i : ℕ) → i < length placed → class_of (paired backwards placed) (grant_at (reverse backwards) i) ≡ class_in
    placed i
backwards_class [] [] e differ i l = absurd (not-suc-le-zero l)
backwards_class [] (a ∷ placed) e differ i l = absurd (omega arith)
backwards_class (g ∷ later) [] e differ i l = absurd (not-suc-le-zero l)
backwards_class (g ∷ later) (a ∷ placed) e differ i l =
    ⊎_elim
    (λ (s : i ≡ length placed). rw (s, latest_grant g later placed (suc_inj e), same_grant_refl g)
    (sym (class_in_latest a placed refl)))
    (λ (k : i < length placed).
    rw (
      earlier_grant g later placed (suc_inj e) k,
      other k,
      backwards_class later placed (suc_inj e) differ_earlier i
          k,
    )
    (sym (class_in_earlier a placed k)))
    (last_or_below l)
  where
    other : i < length placed → same_grant (grant_at (reverse later) i) g ≡ false
    other k =
        rw (earlier_grant g later placed (suc_inj e) k, latest_grant g later placed (suc_inj e)) at
        (differ i (length placed) k (le_refl (suc (length placed))))

    differ_earlier : (i j : ℕ) → i < j → j < length placed → same_grant (grant_at (reverse later) i)
        (grant_at (reverse later) j) ≡ false
    differ_earlier i j k m =
        rw (earlier_grant g later placed (suc_inj e) (lt_trans k m), earlier_grant g later placed (suc_inj e) m) at
        (differ i j k (le_step m))

-- where no grant stands twice, the class of a grant is that of its number
pub paired_class : (grants : List Grant) (placed : List ℕ) → length grants ≡ length placed → Different grants
    → (i : ℕ) → i < length placed → class_of (paired (reverse grants) placed) (grant_at grants i) ≡ class_in placed i
paired_class grants placed e differ i l =
    rw (reverse-reverse grants) at
    (backwards_class (reverse grants) placed (length-reverse grants ∙ e)
    (rw (reverse-reverse grants) (λ i j k m. differ i j k (rw e m))) i l)
