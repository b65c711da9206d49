-- How many grants of one user fit a grant: those whose permission the grant's user holds, if their user holds the
-- grant's permission. So the counts of a user's grants that change at all change by the same number.
use Rattle.std.specs.Prelude.{ℕ, ◌+◌, ◌-◌, ◌*◌, ◌/◌, ◌%◌, ◌<◌, ◌≡◌, refl, Bool, true, false, not, ◌&&◌, ◌||◌, List, eqb, ltb, get_or}
use Rattle.std.proofs.Common.{zero-add, zero-mul, mod-lt, div-add-mod', arith, sym, ap, ◌∙◌, ⊎_elim, eq-eqb, ne_eqb, eqb-true, lt-ltb, le-ltb, lit<}
use Rattle.std.proofs.Math.Nat.{sub-zero}
use Rattle.std.proofs.Math.Bool.{So, and-true, and-false, and_comm, and_assoc, or-false}
use Rattle.std.proofs.Math.Arith.{digits_div, digits_mod}
use Rattle.spec.specs.Limits.{user_limit}
use Rattle.bits.specs.Truth.{not_both, fails_unless, and_intro, and_left, and_right}
use Rattle.bits.specs.Counting.{some_below, Lowest}
use Rattle.bits.specs.Laws.Below.{below_or_from, some_below_intro}
use Rattle.bits.specs.Laws.Count.{count_below_ext, count_below_none_intro}
use Rattle.bits.specs.Bit.{bit, word_bits}
use Rattle.bits.specs.Word.{LowestDropped}
use Rattle.cell_rows.specs.Rows.{row_words, row_bits, cell}
use Rattle.cell_rows.specs.CellPlaces.{grant_of, marked, fit_in}
use Rattle.cell_rows.specs.Laws.Width.{user_of_cell, word_in_row, permission_below}
use Rattle.cells.specs.MadeCells.{MadeCells}
use Rattle.cells.specs.Laws.CellPlace.{word_of_cell, position_of_cell, cell_marked}
use Rattle.cells.specs.Laws.NextBelow.{next_below}
use Rattle.witness.specs.CountChange.{at_position, fit_count, shared, ChangedAt, TakenOff}
use Rattle.witness.specs.CountChange.{in_row, of_user, of_users, of_users_below}
use Rattle.witness.specs.Laws.CountChange.{word_of_position, none_at, nothing_changed, then_changed}
use Rattle.witness.specs.Laws.CountChange.{changed_as, Changing, change_goes_on, lowest_at, at_dropped}
use Rattle.witness.specs.Laws.Row.{none_in_row}
use Rattle.fit.specs.Columns.{column_words, held_in, Columns}
use Rattle.fit.specs.ColumnUnion.{in_union, in_row_union}
use Rattle.fit.specs.Laws.ColumnPlaces.{whole_columns, same_digits}
use Rattle.fit.specs.Laws.ColumnUnion.{union_reaches}

-- a grant of user u, against cell n: the user of each holds the permission of the other
fit_by_user : (rows : List ℕ) (u n p : ℕ) → p < row_bits
    → fit_in rows (grant_of n) (grant_of (u * row_bits + p)) ≡ (cell rows (n / row_bits) p
    && cell rows u (n % row_bits))
fit_by_user rows u n p l = rw (digits_div u l, digits_mod u l)

module _ (rows : List ℕ) (u : ℕ) (words : List ℕ) (n : ℕ) where
  fit_count_held : So (cell rows u (n % row_bits)) → shared rows words (n / row_bits) ≡ fit_count rows u words n
  fit_count_held held =
      count_below_ext row_bits (λ p. marked words p && cell rows (n / row_bits) p)
      (λ p. marked words p && fit_in rows (grant_of n) (grant_of (u * row_bits + p)))
      (λ p l. ap (λ b. marked words p && b) (sym (fit_by_user rows u n p l
      ∙ ap (λ b. cell rows (n / row_bits) p && b) held ∙ and-true (cell rows (n / row_bits) p))))

  fit_count_lacked : cell rows u (n % row_bits) ≡ false → fit_count rows u words n ≡ 0
  fit_count_lacked lacked =
      count_below_none_intro row_bits (λ p. marked words p && fit_in rows (grant_of n) (grant_of (u * row_bits + p)))
      (λ p l. ap (λ b. marked words p && b)
      (fit_by_user rows u n p l ∙ ap (λ b. cell rows (n / row_bits) p && b) lacked
      ∙ and-false (cell rows (n / row_bits) p))
      ∙ and-false (marked words p))

  fit_count_of_none : ((p : ℕ) → p < row_bits → marked words p ≡ false) → fit_count rows u words n ≡ 0
  fit_count_of_none none =
      count_below_none_intro row_bits (λ p. marked words p && fit_in rows (grant_of n) (grant_of (u * row_bits + p)))
      (λ p l. ap (λ b. b && fit_in rows (grant_of n) (grant_of (u * row_bits + p))) (none p l))

-- ---- the counts of a row, word by word

-- cell n is in the row of user v, at a position of the first k of these words
abbrev pub in_row_below : ℕ → List ℕ → ℕ → ℕ → Bool
in_row_below v words k n = eqb (n / row_bits) v && (ltb (n % row_bits / word_bits) k && marked words (n % row_bits))

-- a word of a row by its user and its place in the row
word_of_user : (v k n : ℕ) → k < row_words
    → eqb (n / word_bits) (v * row_words + k) ≡ (eqb (n / row_bits) v && eqb (n % row_bits / word_bits) k)
word_of_user v k n l =
    same_digits row_words v k (n / word_bits) l
    ∙ and_comm (eqb (n / word_bits % row_words) k) (eqb (n / word_bits / row_words) v)
    ∙ rw (user_of_cell n, word_of_cell n)

gather : (a x y : Bool) → ((a && x) || (a && y)) ≡ (a && (x || y))
gather true x y = refl
gather false x y = refl

module _ (v : ℕ) (words : List ℕ) where
  -- the cells of word k are not in the words below it
  pub word_to_come : (k n : ℕ) → k < row_words → So (at_position (v * row_words + k) (get_or words k 0) n)
      → (in_row_below v words k n ≡ false) × So (in_row v words n)
  word_to_come k n l p =
      let at = and_left (eqb (n / word_bits) (v * row_words + k)) (bit (get_or words k 0) (n % word_bits)) p in
      let set = and_right (eqb (n / word_bits) (v * row_words + k)) (bit (get_or words k 0) (n % word_bits)) p in
      let both = sym (word_of_user v k n l) ∙ at in
      let own = and_left (eqb (n / row_bits) v) (eqb (n % row_bits / word_bits) k) both in
      let same = eqb-true (n % row_bits / word_bits) k (and_right (eqb (n / row_bits) v)
      (eqb (n % row_bits / word_bits) k) both) in (
        rw (same, le-ltb k k (omega arith)) (and-false (eqb (n / row_bits) v)),
        and_intro (eqb (n / row_bits) v) (marked words (n % row_bits)) own (rw (same, position_of_cell n) set),
      )

  next_word : (k n : ℕ) → k < row_words
      → in_row_below v words (k + 1) n ≡ (in_row_below v words k n
      || at_position (v * row_words + k) (get_or words k 0) n)
  next_word k n l =
      let test : ℕ → Bool = λ m. bit (get_or words m 0) (n % row_bits % word_bits) in
      ap (λ b. eqb (n / row_bits) v && b) (sym (next_below test (n % row_bits / word_bits) k))
      ∙ sym (gather (eqb (n / row_bits) v) (ltb (n % row_bits / word_bits) k && marked words (n % row_bits))
      (eqb (n % row_bits / word_bits) k && test k))
      ∙ ap (λ b. in_row_below v words k n || b) (sym placed)
    where
      placed : at_position (v * row_words + k) (get_or words k 0) n
          ≡ (eqb (n / row_bits) v && (eqb (n % row_bits / word_bits) k
          && bit (get_or words k 0) (n % row_bits % word_bits)))
      placed =
          ap (λ b. b && bit (get_or words k 0) (n % word_bits)) (word_of_user v k n l)
          ∙ and_assoc (eqb (n / row_bits) v) (eqb (n % row_bits / word_bits) k) (bit (get_or words k 0) (n % word_bits))
          ∙ rw (position_of_cell n)

  module _ (to : ℕ → ℕ → ℕ) where
    pub row_starts : (before : List ℕ) → ChangedAt (in_row_below v words 0) to before before
    row_starts before =
        nothing_changed (λ n. rw (le-ltb (n % row_bits / word_bits) 0 (omega arith))
        (and-false (eqb (n / row_bits) v))) before

    pub row_goes_on : (k : ℕ) (before now after : List ℕ) → k < row_words
        → ChangedAt (in_row_below v words k) to before now
        → ChangedAt (at_position (v * row_words + k) (get_or words k 0)) to now after
        → ChangedAt (in_row_below v words (k + 1)) to before after
    row_goes_on k before now after l earlier here =
        then_changed earlier here (λ n p. (word_to_come k n l p).0) (λ n. next_word k n l)

    pub row_ends : (before after : List ℕ) → ChangedAt (in_row_below v words row_words) to before after
        → ChangedAt (in_row v words) to before after
    row_ends before after all = record {
      sized = all.sized;
      says = λ n.
          rw (lt-ltb (n % row_bits / word_bits) row_words (word_in_row (n % row_bits) (permission_below n)))
          at (all.says n);
    }

-- ---- the counts of one user

less_by : {k m : ℕ} → k ≡ m → (count : ℕ) → count - k ≡ count - m
less_by e count = ap (λ k. count - k) e

less_by_none : {k : ℕ} → k ≡ 0 → (count : ℕ) → count - k ≡ count
less_by_none e count = less_by e count ∙ sub-zero count

-- the open grants of user v that the grants of user u can fit
abbrev pub Reached : List ℕ → List ℕ → ℕ → ℕ → List ℕ → Type 0
Reached rows left u v own = MadeCells (λ p. cell left v p && cell rows u p) row_bits own

module _ (rows left : List ℕ) (u : ℕ) (words : List ℕ) (v : ℕ) (own : List ℕ) (made : Reached rows left u v own) where
  -- a grant of the user that is reached is open
  pub reached_open : (n : ℕ) → So (in_row v own n) → So (of_user left v n)
      × (shared rows words v ≡ fit_count rows u words n)
  reached_open n p =
      let is_own = and_left (eqb (n / row_bits) v) (marked own (n % row_bits)) p in
      let same = eqb-true (n / row_bits) v is_own in
      let both = sym (made.inside (n % row_bits) (permission_below n))
      ∙ and_right (eqb (n / row_bits) v) (marked own (n % row_bits)) p in
      let is_open = and_left (cell left v (n % row_bits)) (cell rows u (n % row_bits)) both in
      let held = and_right (cell left v (n % row_bits)) (cell rows u (n % row_bits)) both in (
        and_intro (eqb (n / row_bits) v) (marked left n) is_own
            (sym (cell_marked left n) ∙ ap (λ w. cell left w (n % row_bits)) same ∙ is_open),
        ap (shared rows words) (sym same) ∙ fit_count_held rows u words n held,
      )

  -- one that is open and not reached changes by nothing
  pub user_changed : (before after : List ℕ) → TakenOff (in_row v own) (λ n. shared rows words v) before after
      → TakenOff (of_user left v) (fit_count rows u words) before after
  user_changed before after =
      changed_as (λ n p. let told = reached_open n p in (told.0, less_by told.1))
      (λ n f p. less_by_none (fit_count_lacked rows u words n (lacked n f p)))
    where
      lacked : (n : ℕ) → in_row v own n ≡ false → So (of_user left v n) → cell rows u (n % row_bits) ≡ false
      lacked n f p =
          let is_own = and_left (eqb (n / row_bits) v) (marked left n) p in
          let same = eqb-true (n / row_bits) v is_own in
          let is_open = ap (λ w. cell left w (n % row_bits)) (sym same) ∙ cell_marked left n
          ∙ and_right (eqb (n / row_bits) v) (marked left n) p in
          fails_unless (cell rows u (n % row_bits)) (λ h. not_both
          (and_intro (eqb (n / row_bits) v) (marked own (n % row_bits)) is_own
          (made.inside (n % row_bits) (permission_below n)
          ∙ and_intro (cell left v (n % row_bits)) (cell rows u (n % row_bits)) is_open h)) f)

-- a row without permissions is nowhere
pub none_reached : (v : ℕ) (own : List ℕ) → some_below row_words (λ k. not (eqb (get_or own k 0) 0)) ≡ false → (n : ℕ)
    → in_row v own n ≡ false
none_reached v own none n =
    ap (λ b. eqb (n / row_bits) v && b) (none_in_row own none (n % row_bits) (permission_below n))
    ∙ and-false (eqb (n / row_bits) v)

-- ---- the counts of the users at the positions of a column's word

apart_where : (a e m : Bool) → ((a && not e) && m) ≡ ((a && m) && not (e && m))
apart_where false e m = refl
apart_where true true true = refl
apart_where true true false = refl
apart_where true false true = refl
apart_where true false false = refl

-- the cells of the user at the lowest position are among those to come
pub lowest_to_come : (left : List ℕ) (j w : ℕ) {low : ℕ} → Lowest word_bits (bit w) low → (n : ℕ)
    → So (of_user left (j * word_bits + low) n) → So (of_users left j w n)
lowest_to_come left j w {low} is-low n p =
    and_intro (at_position j w (n / row_bits)) (marked left n)
    (rw (eqb-true (n / row_bits) (j * word_bits + low) (and_left (eqb (n / row_bits) (j * word_bits + low))
    (marked left n) p)) (lowest_at j w is-low))
    (and_right (eqb (n / row_bits) (j * word_bits + low)) (marked left n) p)

pub users_go_on : {all : ℕ → Bool} {to : ℕ → ℕ → ℕ} (left : List ℕ) (j : ℕ) {w low rest : ℕ}
    {before now after : List ℕ} → Changing all (of_users left j w) to before now → Lowest word_bits (bit w) low
    → LowestDropped w rest → ChangedAt (of_user left (j * word_bits + low)) to now after
    → Changing all (of_users left j rest) to before after
users_go_on left j {w} {low} going is-low dropped =
    change_goes_on going (lowest_to_come left j w is-low)
    (λ n. rw (at_dropped j is-low dropped (n / row_bits))
    (apart_where (at_position j w (n / row_bits)) (eqb (n / row_bits) (j * word_bits + low)) (marked left n)))

pub no_users_left : (left : List ℕ) (j n : ℕ) → of_users left j 0 n ≡ false
no_users_left left j n = rw (none_at j (n / row_bits))

-- ---- the counts of all users

-- the cells of users at the positions of a column's word are not below it, and below the end of all
pub column_to_come : (left : List ℕ) (j some n : ℕ) → j < column_words → So (of_users left j some n)
    → (of_users_below left (j * word_bits) n ≡ false) × So (of_users_below left user_limit n)
column_to_come left j some n inside p =
    let at = and_left (at_position j some (n / row_bits)) (marked left n) p in
    let column = word_of_position j some (n / row_bits) at in (
      rw (le-ltb (n / row_bits) (j * word_bits) (omega arith)),
      and_intro (ltb (n / row_bits) user_limit) (marked left n)
          (lt-ltb (n / row_bits) user_limit (omega (arith, whole_columns)))
          (and_right (at_position j some (n / row_bits)) (marked left n) p),
    )

-- no grants change nothing
pub no_grants_changed : (rows left : List ℕ) (u : ℕ) (words : List ℕ) (end : ℕ) (before : List ℕ)
    → some_below row_words (λ k. not (eqb (get_or words k 0) 0)) ≡ false
    → TakenOff (of_users_below left end) (fit_count rows u words) before before
no_grants_changed rows left u words end before none =
    changed_as {at = λ n. false} {to = λ n count. count} (λ n p. absurd (not_both p refl))
    (λ n f p. less_by_none (fit_count_of_none rows u words n (none_in_row words none)))
    (nothing_changed (λ n. refl) before)

-- a user who holds none of their permissions has no grant that fits
fit_count_unreached : (rows columns : List ℕ) → Columns rows columns → (u : ℕ) (words : List ℕ) (j n : ℕ)
    → j < column_words → n / row_bits / word_bits ≡ j
    → in_row_union columns words 0 j (n / row_bits % word_bits) ≡ false → fit_count rows u words n ≡ 0
fit_count_unreached rows columns made u words j n inside column unreached =
    count_below_none_intro row_bits (λ p. marked words p && fit_in rows (grant_of n) (grant_of (u * row_bits + p)))
    (λ p l. fails_unless (marked words p && fit_in rows (grant_of n) (grant_of (u * row_bits + p))) (λ both. not_both
    (some_below_intro row_words
    (λ k. in_union columns (get_or words (0 * row_words + k) 0) k j (n / row_bits % word_bits)) (word_in_row p l)
    (rw (zero-mul row_words, zero-add (p / word_bits))
    (union_reaches rows columns made (get_or words (p / word_bits) 0) (p / word_bits) j (n / row_bits % word_bits)
    (p % word_bits) (word_in_row p l) inside (mod-lt (n / row_bits) (lit< tt)) (mod-lt p (lit< tt))
    (and_left (marked words p) (fit_in rows (grant_of n) (grant_of (u * row_bits + p))) both) (held p l both))))
    unreached))
  where
    held : (p : ℕ) → p < row_bits → So (marked words p && fit_in rows (grant_of n) (grant_of (u * row_bits + p)))
        → So (held_in rows (p / word_bits * word_bits + p % word_bits) (j * word_bits + n / row_bits % word_bits))
    held p l both =
        let place : j * word_bits + n / row_bits % word_bits ≡ n / row_bits = omega arith in
        rw (place, div-add-mod' p word_bits)
        (and_left (cell rows (n / row_bits) p) (cell rows u (n % row_bits))
        (sym (fit_by_user rows u n p l) ∙ and_right (marked words p)
        (fit_in rows (grant_of n) (grant_of (u * row_bits + p))) both))

-- cell n is one of left, of a user that has its position in word j of a column
abbrev in_column : List ℕ → ℕ → ℕ → Bool
in_column left j n = eqb (n / row_bits / word_bits) j && marked left n

module _ (rows left : List ℕ) (u : ℕ) (words : List ℕ) where
  pub none_changed_yet : (before : List ℕ) → TakenOff (of_users_below left 0) (fit_count rows u words) before before
  none_changed_yet before = nothing_changed (λ n. rw (le-ltb (n / row_bits) 0 (omega arith))) before

  pub next_users_changed : (j some : ℕ) (columns before now after : List ℕ) → Columns rows columns → j < column_words
      → ((t : ℕ) → bit some t ≡ in_row_union columns words 0 j t)
      → TakenOff (of_users_below left (j * word_bits)) (fit_count rows u words) before now
      → TakenOff (of_users left j some) (fit_count rows u words) now after
      → TakenOff (of_users_below left ((j + 1) * word_bits)) (fit_count rows u words) before after
  next_users_changed j some columns before now after made inside union earlier here =
      then_changed earlier
      (changed_as {wider = in_column left j} (λ n p. (wider n p, λ count. refl))
      (λ n f p. less_by_none (unreached n f p)) here)
      (λ n p. rw (le-ltb (n / row_bits) (j * word_bits) (omega (arith, column n p)))) joined
    where
      column : (n : ℕ) → So (in_column left j n) → n / row_bits / word_bits ≡ j
      column n p =
          eqb-true (n / row_bits / word_bits) j (and_left (eqb (n / row_bits / word_bits) j) (marked left n) p)

      wider : (n : ℕ) → So (of_users left j some n) → So (in_column left j n)
      wider n p =
          let at = and_left (at_position j some (n / row_bits)) (marked left n) p in
          and_intro (eqb (n / row_bits / word_bits) j) (marked left n)
          (and_left (eqb (n / row_bits / word_bits) j) (bit some (n / row_bits % word_bits)) at)
          (and_right (at_position j some (n / row_bits)) (marked left n) p)

      unreached : (n : ℕ) → of_users left j some n ≡ false → So (in_column left j n) → fit_count rows u words n ≡ 0
      unreached n f p =
          fit_count_unreached rows columns made u words j n inside (column n p)
          (sym (union (n / row_bits % word_bits))
          ∙ (rw (
            and_left (eqb (n / row_bits / word_bits) j) (marked left n) p,
            and_right (eqb (n / row_bits / word_bits) j) (marked left n) p,
            and-true (bit some (n / row_bits % word_bits)),
          ) at f))

      joined : (n : ℕ) → of_users_below left ((j + 1) * word_bits) n ≡ (of_users_below left (j * word_bits) n
          || in_column left j n)
      joined n =
          ⊎_elim
          (λ l. rw (
            lt-ltb (n / row_bits) (j * word_bits) l,
            lt-ltb (n / row_bits) ((j + 1) * word_bits) (omega arith),
            ne_eqb (n / row_bits / word_bits) j (omega arith),
          )
          (sym (or-false (marked left n))))
          (λ l. rw (le-ltb (n / row_bits) (j * word_bits) l) (⊎_elim
          (λ k. rw (
            lt-ltb (n / row_bits) ((j + 1) * word_bits) k,
            eq-eqb (n / row_bits / word_bits) j (omega arith),
          ))
          (λ k. rw (
            le-ltb (n / row_bits) ((j + 1) * word_bits) k,
            ne_eqb (n / row_bits / word_bits) j (omega arith),
          ))
          (below_or_from (n / row_bits) ((j + 1) * word_bits))))
          (below_or_from (n / row_bits) (j * word_bits))
