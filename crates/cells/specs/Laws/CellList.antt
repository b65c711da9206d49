-- The list of a set's grants, from the numbers of its cells: the cells in rising number give the grants in order.
-- Both lists are in order, and a grant stands in either exactly where its cell is set. So what a test finds in the
-- list is found, and counted, by the cells' numbers.
use Rattle.std.specs.Prelude.{ℕ, ◌+◌, ◌*◌, ◌/◌, ◌%◌, ◌<◌, ◌≡◌, ◌⊎◌, Bool, ◌&&◌, length}
use Rattle.std.proofs.Common.{mod-lt, div-add-mod', le-div_iff_mul-le, div-mul-le_self, eq-or-lt_of_le, arith, sym, ap, ◌∙◌, inl, inr, ⊎_elim}
use Rattle.std.proofs.Math.Bool.{So}
use mathlib.Core.List.Memᴰ
use mathlib.Core.List.{List, map, Memᴰ}
use Rattle.std.proofs.Math.Arith.{digits_div, digits_mod, digits_lt}
use Rattle.std.proofs.lemmas.List.{length-map}
use Rattle.spec.specs.Vocabulary.{filter}
use Rattle.spec.specs.Sheet.{Sheet, Grant, holds, grants}
use Rattle.bits.specs.Truth.{same_truth, and_right, and_intro}
use Rattle.bits.specs.Counting.{count_below}
use Rattle.lists.specs.AppendLaws.{filter_map}
use Rattle.lists.specs.OrderedMap.{ordered_map}
use Rattle.lists.specs.OrderedUnique.{ordered_unique}
use Rattle.lists.specs.PassingBelow.{passing_below, passing_only, passing_member, passing_rises, passing_filter}
use Rattle.lists.specs.PassingBelow.{passing_length, passing_ext}
use Rattle.cell_rows.specs.Rows.{row_bits}
use Rattle.cells.specs.Laws.Grant.{same_parts, grant_held, held_grant}
use Rattle.cells.specs.Laws.GrantOrder.{Before, grants_ordered}
use Rattle.cells.specs.CellSets.{in_cells, cell_grants}
use Rattle.cell_rows.specs.CellPlaces.{grant_of, marked, Shown, Part}
use Rattle.cell_rows.specs.Laws.Width.{row_bits_pos}
use Rattle.cells.specs.Laws.CellPlace.{cell_marked}

-- ---- cells in rising number

-- of two numbers the lower has the lower quotient, or the same and the lower remainder
lower_parts : (b m n : ℕ) → 0 < b → m < n → (m / b < n / b) ⊎ ((m / b ≡ n / b) × (m % b < n % b))
lower_parts b m n pos l =
    ⊎_elim (λ e. inr (e, remainders e)) (λ k. inl k)
    (eq-or-lt_of_le ((le-div_iff_mul-le pos).1 (omega (arith, div-mul-le_self m b))))
  where
    remainders : m / b ≡ n / b → m % b < n % b
    remainders e =
        let same : m / b * b ≡ n / b * b = ap (λ k. k * b) e in
        omega (arith, div-add-mod' m b, div-add-mod' n b)

pub lower_cell : (m n : ℕ) → m < n → Before (grant_of m) (grant_of n)
lower_cell m n = lower_parts row_bits m n row_bits_pos

before_strict : (g h : Grant) → Before g h → Before h g → ⊥
before_strict g h (inl k) (inl l) = omega arith
before_strict g h (inl k) (inr l) = omega arith
before_strict g h (inr k) (inl l) = omega arith
before_strict g h (inr k) (inr l) = omega arith

-- ---- the number of a grant's cell

abbrev pub cell_of : Grant → ℕ
cell_of g = g.user * row_bits + g.permission

pub grant_of_cell : (g : Grant) → g.permission < row_bits → grant_of (cell_of g) ≡ g
grant_of_cell g l = same_parts (digits_div g.user l) (digits_mod g.user l)

pub cell_of_grant : (n : ℕ) → cell_of (grant_of n) ≡ n
cell_of_grant n = div-add-mod' n row_bits

-- ---- the list

module _ {rows : List ℕ} {users : ℕ} {sheet : Sheet} (shown : Shown rows users sheet) where
  pub marked_holds : (n : ℕ) → marked rows n ≡ holds sheet (n / row_bits) (n % row_bits)
  marked_holds n = sym (cell_marked rows n) ∙ shown.cells.shows (n / row_bits) (n % row_bits) (mod-lt n row_bits_pos)

  pub cell_below : (g : Grant) → So (holds sheet g.user g.permission) → cell_of g < users * row_bits
  cell_below g p = digits_lt (shown.few g.user g.permission p) (shown.short g.user g.permission p)

  pub grants_by_cell : grants sheet ≡ map grant_of (passing_below (users * row_bits) (marked rows))
  grants_by_cell =
      ordered_unique Before before_strict (grants sheet) (map grant_of (passing_below (users * row_bits) (marked rows)))
      (grants_ordered sheet) (ordered_map ◌<◌ Before grant_of lower_cell (passing_below (users * row_bits)
      (marked rows)) (passing_rises (users * row_bits) (marked rows)))
      there back
    where
      there : (g : Grant) → Memᴰ g (grants sheet)
          → Memᴰ g (map grant_of (passing_below (users * row_bits) (marked rows)))
      there g m =
          let p = grant_held sheet m in
          let e = grant_of_cell g (shown.short g.user g.permission p) in
          Memᴰ.cast (sym e) (Memᴰ.map grant_of (passing_member (users * row_bits) (marked rows) (cell_below g p)
          (marked_holds (cell_of g) ∙ rw (ap (λ x. x.user) e, ap (λ x. x.permission) e) p)))

      back : (g : Grant) → Memᴰ g (map grant_of (passing_below (users * row_bits) (marked rows)))
          → Memᴰ g (grants sheet)
      back g m =
          let r = Memᴰ.of_map grant_of (passing_below (users * row_bits) (marked rows)) m in
          Memᴰ.cast (sym r.2) (held_grant sheet (grant_of r.0) (sym (marked_holds r.0)
          ∙ (passing_only (users * row_bits) (marked rows) r.1).holds))

  -- a set of them
  pub cell_grants_by_cell : {left : List ℕ} → Part left rows → cell_grants sheet left ≡ map grant_of
      (passing_below (users * row_bits) (marked left))
  cell_grants_by_cell {left} part =
      rw (
        grants_by_cell,
        filter_map (in_cells left) grant_of (passing_below (users * row_bits) (marked rows)),
        passing_filter (users * row_bits) (marked rows) (λ n. in_cells left (grant_of n)),
      )
      (ap (map grant_of) (passing_ext (users * row_bits) (λ n. marked rows n && in_cells left (grant_of n))
      (marked left) (λ n l. rw (cell_marked left n) (both n))))
    where
      both : (n : ℕ) → (marked rows n && marked left n) ≡ marked left n
      both n =
          same_truth (marked rows n && marked left n) (marked left n) (and_right (marked rows n) (marked left n))
          (λ p. and_intro (marked rows n) (marked left n) (part.held n p) p)

  -- how many of them pass a test
  pub passing_grants_count : {left : List ℕ} → Part left rows → (test : Grant → Bool)
      → length (filter test (cell_grants sheet left)) ≡ count_below (users * row_bits) (λ n. marked left n
      && test (grant_of n))
  passing_grants_count {left} part test =
      rw (
        cell_grants_by_cell part,
        filter_map test grant_of (passing_below (users * row_bits) (marked left)),
        length-map (filter (λ n. test (grant_of n)) (passing_below (users * row_bits) (marked left))) grant_of,
        passing_filter (users * row_bits) (marked left) (λ n. test (grant_of n)),
      )
      (passing_length (users * row_bits) (λ n. marked left n && test (grant_of n)))
