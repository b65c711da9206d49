-- How the roles grow along the rows. The set cells in order are one list, and those below a cell are its first; so
-- the next set cell is the next of the list, its grant takes the role of its class, and sets one cell in either
-- matrix. No role is past the last one of the whole list, so each is a column of a row.
use Rattle.std.specs.Prelude.{ℕ, zero, suc, ◌+◌, ◌*◌, ◌/◌, ◌%◌, ◌≤◌, ◌<◌, ◌-◌, max, ◌≡◌, refl, true, false, not, ◌&&◌, List, [], ◌∷◌, ◌++◌, map, eqb, length, get_or, set, replicate}
use Rattle.std.proofs.Common.{zero-le, le_refl, le_of_lt, le_trans, lt_of_lt_of_le, eq-or-lt_of_le, le_of_suc-le-suc, add-one, arith, sym, ap, ◌∙◌, ⊎_elim, append_assoc, eq-eqb, ne_eqb, length-append, get_or-set_same}
use Rattle.std.proofs.Math.Bool.{So, and-true, and-false, and_comm}
use Rattle.std.proofs.lemmas.Bool.{false≢true}
use Rattle.std.proofs.lemmas.List.{length-replicate}
use Rattle.std.proofs.Math.Seq.{get_or-append_seam}
use Rattle.spec.specs.Limits.{user_limit, grant_limit}
use Rattle.spec.specs.Cover.{used}
use Rattle.bits.specs.Counting.{Lowest, Skipped}
use Rattle.bits.specs.Laws.Below.{below_or_from}
use Rattle.bits.specs.Bit.{bit, word_bits}
use Rattle.bits.specs.Laws.Bit.{bit_of_zero}
use Rattle.bits.specs.Word.{LowestDropped}
use Rattle.lists.specs.PassingBelow.{passing_below, passing_until, passing_next, passing_add}
use Rattle.lists.specs.PlacementLaws.{earlier_uses_fewer, latest_below_used}
use Rattle.lists.specs.LatestFirst.{latest_first_later}
use Rattle.lists.specs.KeyLaws.{by_key}
use Rattle.lists.specs.KeyStep.{next_class}
use Rattle.cell_rows.specs.Rows.{row_bits}
use Rattle.cell_rows.specs.CellAdded.{CellAdded}
use Rattle.cell_rows.specs.CellPlaces.{cell_words, cell_limit, grant_of, marked}
use Rattle.cell_rows.specs.Laws.Width.{rows_cells}
use Rattle.cover.specs.CoverKeys.{class_from, none_keyed, keyed_count_le, class_from_is_next, one_keyed}
use Rattle.roles.specs.CellClasses.{paired_in}
use Rattle.roles.specs.RoleNumbers.{class_limit, no_role, class_key}
use Rattle.roles.specs.RoleMatrices.{role_words, no_cells, one_cell_more}
use Rattle.roles.specs.RoleWalk.{all_cells, passed, ClassedRows, RolesTo}
use Rattle.roles.specs.Laws.CellClass.{listed_next}

-- ---- the list of the set cells

module _ (rows : List ℕ) (n : ℕ) (inside : n < user_limit * row_bits) (held : So (marked rows n)) where
  -- those below n, then n, then the rest
  split : (b : ℕ) → passing_below (suc n + b) (marked rows) ≡ passing_below n (marked rows) ++ n ∷
      map (λ i. suc n + i) (passing_below b (λ i. marked rows (suc n + i)))
  split b =
      passing_add (suc n) b (marked rows)
      ∙ rw (passing_next n (marked rows) held) (append_assoc (passing_below n (marked rows)) (n ∷ [])
      (map (λ i. suc n + i) (passing_below b (λ i. marked rows (suc n + i)))))

  whole : suc n + (user_limit * row_bits - suc n) ≡ user_limit * row_bits
  whole = omega arith

  pub listed_here : get_or (all_cells rows) (passed rows n) 0 ≡ n
  listed_here =
      ap (λ l. get_or l (passed rows n) 0) (rw whole at (split (user_limit * row_bits - suc n)))
      ∙ get_or-append_seam (passing_below n (marked rows)) n _ 0

  pub passed_below : passed rows n < length (all_cells rows)
  passed_below =
      let e = ap length (rw whole at (split (user_limit * row_bits - suc n))) in
      omega (
        arith,
        e,
        length-append (passing_below n (marked rows)) (n ∷ map (λ i. suc n + i)
            (passing_below (user_limit * row_bits - suc n) (λ i. marked rows (suc n + i)))),
      )

  pub passed_next : passed rows (suc n) ≡ suc (passed rows n)
  passed_next =
      ap length (passing_next n (marked rows) held) ∙ length-append (passing_below n (marked rows)) (n ∷ [])
      ∙ add-one (passed rows n)

-- ---- roles so far

-- a longer grouping uses no fewer classes
used_more : (key : ℕ → ℕ) (i n : ℕ) → i ≤ n → used (by_key key i) ≤ used (by_key key n)
used_more key i zero l = let e : i ≡ 0 = omega arith in rw e (le_refl 0)
used_more key i (suc n) l =
    ⊎_elim (λ (e : i ≡ suc n). rw e (le_refl (used (by_key key (suc n)))))
    (λ (k : i < suc n). le_trans (used_more key i n (le_of_suc-le-suc k)) (earlier_uses_fewer (next_class key n)
    (by_key key n)))
    (eq-or-lt_of_le l)

pub no_roles : (rows class : List ℕ) (n : ℕ) → n ≡ grant_limit
    → RolesTo rows class 0 (replicate class_limit no_role) (replicate cell_words 0) (replicate role_words 0) 0
unfolding passing_below
no_roles rows class n room =
    record {
      roles = replicate n 0;
      numbered = none_keyed (class_key class (all_cells rows)) n class_limit no_role room;
      has_wide = length-replicate cell_words 0;
      has_shown = no_cells cell_words;
      gives_wide = length-replicate role_words 0;
      gives_shown = no_cells role_words;
    }

-- no set cell on the way
pub roles_skip : {rows class : List ℕ} {m : ℕ} {table has gives : List ℕ} {count : ℕ} (n : ℕ) → m ≤ n
    → Skipped (marked rows) m n → RolesTo rows class m table has gives count
    → RolesTo rows class n table has gives count
roles_skip {rows} {class} {m} n l none so_far =
    let same = passing_until m n (marked rows) l none in
    record {
      roles = so_far.roles;
      numbered = rw same so_far.numbered;
      has_wide = so_far.has_wide;
      has_shown = rw same so_far.has_shown;
      gives_wide = so_far.gives_wide;
      gives_shown = rw same so_far.gives_shown;
    }

-- the next grant
module _ {rows class : List ℕ} {n : ℕ} {table has gives : List ℕ} {count : ℕ} (classed : ClassedRows rows class)
    (so_far : RolesTo rows class n table has gives count) (inside : n < user_limit * row_bits)
    (below : n < cell_limit) (held : So (marked rows n)) where
  abbrev key : ℕ → ℕ
  key = class_key class (all_cells rows)

  key_here : key (passed rows n) ≡ get_or class n 0
  key_here = ap (λ m. get_or class m 0) (listed_here rows n inside held)

  fits : key (passed rows n) < class_limit
  fits = rw key_here (classed.in_table n below)

  room : passed rows n < grant_limit
  room = lt_of_lt_of_le (passed_below rows n inside held) classed.few

  pub few_roles : count < grant_limit
  few_roles = omega (arith, keyed_count_le so_far.numbered, room)

  module _ {r : ℕ} (taken : r ≡ class_from no_role table count (get_or class n 0)) where
    takes : r ≡ next_class key (passed rows n)
    takes =
        (rw (← key_here) at taken) ∙ class_from_is_next so_far.numbered room fits (le_of_lt few_roles)

    pub role_below : r < row_bits
    role_below =
        rw takes (lt_of_lt_of_le (latest_below_used (next_class key (passed rows n)) (by_key key (passed rows n)))
        (le_trans (used_more key (suc (passed rows n)) (length (all_cells rows)) (passed_below rows n inside held))
        classed.few_roles))

    -- the pairs with the next one in front
    paired_here : paired_in (all_cells rows) (set so_far.roles (passed rows n) r) (suc (passed rows n))
        ≡ record { grant = grant_of n; class = r } ∷ paired_in (all_cells rows) so_far.roles (passed rows n)
    paired_here =
        rw (
          listed_next (all_cells rows) (passed rows n),
          get_or-set_same so_far.roles (passed rows n) r 0 (rw so_far.numbered.room room),
          latest_first_later so_far.roles (passed rows n) r (passed rows n) (le_refl (passed rows n)),
          listed_here rows n inside held,
        )

    pub roles_next : {has_next gives_next : List ℕ} → CellAdded has has_next (n / row_bits) r true
        → CellAdded gives gives_next r (n % row_bits) true
        → RolesTo rows class (suc n) (set table (get_or class n 0) r) has_next gives_next (max (suc r) count)
    roles_next has-added gives-added =
        let next = passed_next rows n inside held in
        record {
          roles = set so_far.roles (passed rows n) r;
          numbered = rw next (rw (add-one (passed rows n), key_here) at
              (one_keyed so_far.numbered room fits (le_of_lt few_roles) r takes));
          has_wide = has-added.size ∙ so_far.has_wide;
          has_shown = one_cell_more (n / row_bits) r has-added so_far.has_shown (λ u q. rw (next, paired_here));
          gives_wide = gives-added.size ∙ so_far.gives_wide;
          gives_shown = one_cell_more r (n % row_bits) gives-added so_far.gives_shown
              (λ u p. rw (next, paired_here, and_comm (eqb (n % row_bits) p) (eqb r u)));
        }

-- ---- within a word

-- w has the positions of word i of the rows from a place on, and the roles are those of the grants before that place
pub record WordTo (rows class : List ℕ) (i w : ℕ) (table has gives : List ℕ) (count : ℕ) : Type 0 where
  pub place : ℕ
  pub inside : place ≤ word_bits
  pub before : (q : ℕ) → q < place → bit w q ≡ false
  pub ahead : (q : ℕ) → place ≤ q → bit w q ≡ bit (get_or rows i 0) q
  pub so_far : RolesTo rows class (i * word_bits + place) table has gives count

pub word_starts : {rows class table has gives : List ℕ} {i count : ℕ}
    → RolesTo rows class (i * word_bits) table has gives count
    → WordTo rows class i (get_or rows i 0) table has gives count
word_starts {i} roles =
    let same : i * word_bits + 0 ≡ i * word_bits = omega arith in
    record {
      place = 0;
      inside = zero-le;
      before = λ q l. absurd (omega arith);
      ahead = λ q l. refl;
      so_far = rw same roles;
    }

module _ {rows class table has gives : List ℕ} {i w count : ℕ} (at : WordTo rows class i w table has gives count) where
  -- where no position of w is below j, no cell from the place on up to that of j is set
  none_between : (j : ℕ) → j ≤ word_bits → ((q : ℕ) → q < j → bit w q ≡ false)
      → Skipped (marked rows) (i * word_bits + at.place) (i * word_bits + j)
  none_between j inside none n k l =
      let same : n / word_bits ≡ i = omega arith in
      rw same (sym (at.ahead (n % word_bits) (omega arith)) ∙ none (n % word_bits) (omega arith))

  -- the end of the word
  pub word_ends : w ≡ 0 → RolesTo rows class ((i + 1) * word_bits) table has gives count
  word_ends e =
      let end : i * word_bits + word_bits ≡ (i + 1) * word_bits = omega arith in
      rw (← end) (roles_skip (i * word_bits + word_bits) (omega (arith, at.inside))
      (none_between word_bits (le_refl word_bits) (λ q l. rw e (bit_of_zero q))) at.so_far)

  -- its lowest position is the next grant
  module _ {j : ℕ} (low : Lowest word_bits (bit w) j) (word : i < cell_words) (classed : ClassedRows rows class) where
    not_before : at.place ≤ j
    not_before = ⊎_elim (λ k. absurd (false≢true (sym (at.before j k) ∙ low.holds))) (λ k. k)
        (below_or_from j at.place)

    pub cell_below : i * word_bits + j < cell_limit
    cell_below = omega (arith, low.within)

    inside : i * word_bits + j < user_limit * row_bits
    inside = omega (arith, cell_below, rows_cells user_limit)

    held : So (marked rows (i * word_bits + j))
    held =
        let within = low.within in
        let same : (i * word_bits + j) / word_bits ≡ i = omega arith in
        let position : (i * word_bits + j) % word_bits ≡ j = omega arith in
        rw (same, position) (sym (at.ahead j not_before) ∙ low.holds)

    here : RolesTo rows class (i * word_bits + j) table has gives count
    here =
        roles_skip (i * word_bits + j) (omega (arith, not_before))
        (none_between j (omega (arith, low.within)) low.first) at.so_far

    pub few_here : count < grant_limit
    few_here = few_roles classed here inside cell_below held

    module _ {r : ℕ} (taken : r ≡ class_from no_role table count (get_or class (i * word_bits + j) 0)) where
      pub role_here : r < row_bits
      role_here = role_below classed here inside cell_below held taken

      -- one position less
      pub word_next : {left : ℕ} {has_next gives_next : List ℕ} → LowestDropped w left
          → CellAdded has has_next ((i * word_bits + j) / row_bits) r true
          → CellAdded gives gives_next r ((i * word_bits + j) % row_bits) true
          → WordTo rows class i left (set table (get_or class (i * word_bits + j) 0) r) has_next gives_next
          (max (suc r) count)
      word_next dropped has-added gives-added =
          let within = low.within in
          let next : i * word_bits + (j + 1) ≡ suc (i * word_bits + j) = omega arith in
          record {
            place = j + 1;
            inside = omega arith;
            before = λ q l. dropped.others low q ∙ ⊎_elim (λ k. rw (low.first q k)) (λ k. last q l k)
                (below_or_from q j);
            ahead = λ q l.
                dropped.others low q ∙ rw (ne_eqb q j (omega arith)) (and-true (bit w q))
                ∙ at.ahead q (omega (arith, not_before));
            so_far = rw next (roles_next classed here inside cell_below held taken has-added gives-added);
          }
        where
          last : (q : ℕ) → q < j + 1 → j ≤ q → (bit w q && not (eqb q j)) ≡ false
          last q l k = rw (eq-eqb q j (omega arith)) (and-false (bit w q))
