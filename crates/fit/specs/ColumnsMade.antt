-- Columns made user by user: each goes into the columns of the permissions at the positions of each word of the row.
use Rattle.std.specs.Prelude.{ℕ, ◌+◌, ◌*◌, ◌/◌, ◌%◌, ◌≤◌, ◌<◌, ◌≡◌, refl, Bool, true, false, ◌&&◌, ◌||◌, List, eqb, ltb, length, get_or, replicate}
use Rattle.std.proofs.Common.{mod-lt, arith, sym, ap, ◌∙◌, ⊎_elim, eqb-true, lt-ltb, le-ltb}
use Rattle.std.proofs.Math.Bool.{and-true, and-false, or_assoc, or-false}
use Rattle.std.proofs.Math.ListN.{get_or-eq_default}
use Rattle.spec.specs.Limits.{user_limit}
use Rattle.bits.specs.Truth.{passes_or_fails}
use Rattle.bits.specs.Counting.{Lowest}
use Rattle.bits.specs.Bit.{bit, word_bits}
use Rattle.bits.specs.Laws.Bit.{bit_of_zero}
use Rattle.bits.specs.Word.{LowestDropped}
use Rattle.cell_rows.specs.Rows.{row_words, row_bits}
use Rattle.cell_rows.specs.CellPlaces.{marked}
use Rattle.cell_rows.specs.Laws.Width.{word_in_row}
use Rattle.cells.specs.Laws.MadeCells.{no_cells}
use Rattle.cells.specs.Laws.NextBelow.{next_below}
use Rattle.fit.specs.Columns.{column_words, place_limit, held_in, place_held, Columns}
use Rattle.fit.specs.Laws.ColumnPlaces.{some_users, same_digits, permission_at, past_places}

-- a place is that of user u and of a permission at a position of some, which is word k of a row
abbrev pub put_at : ℕ → ℕ → ℕ → ℕ → Bool
put_at u k some n =
    eqb (n % user_limit) u && (eqb (n / user_limit / word_bits) k && bit some (n / user_limit % word_bits))

-- these places are put in
pub record PutIn (u k some : ℕ) (before after : List ℕ) : Type 0 where
  pub sized : length after ≡ length before
  pub says : (n : ℕ) → marked after n ≡ (marked before n || put_at u k some n)

-- ---- one word

-- the places still to be put in make up what is lacking
pub record PuttingIn (u k some w : ℕ) (before now : List ℕ) : Type 0 where
  pub sized : length now ≡ length before
  pub lacks : (n : ℕ) → (marked now n || put_at u k w n) ≡ (marked before n || put_at u k some n)

-- a word has its lowest position and those that are left
lowest_or_left : {w low rest : ℕ} → Lowest word_bits (bit w) low → LowestDropped w rest
    → (q : ℕ) → bit w q ≡ (eqb q low || bit rest q)
lowest_or_left {w} {low} {rest} is-low dropped q =
    ⊎_elim (λ e. rw e (ap (bit w) (eqb-true q low e) ∙ is-low.holds))
    (λ f. rw (dropped.others is-low q) (rw f (sym (and-true (bit w q))))) (passes_or_fails (eqb q low))

spread : (a b c d : Bool) → (a && (b && (c || d))) ≡ ((a && (c && b)) || (a && (b && d)))
spread false b c d = refl
spread true false true d = refl
spread true false false d = refl
spread true true true d = refl
spread true true false d = refl

lowest_place : (u k : ℕ) {w low rest : ℕ} → u < user_limit → Lowest word_bits (bit w) low → LowestDropped w rest
    → (n : ℕ) → put_at u k w n ≡ (eqb n ((k * word_bits + low) * user_limit + u) || put_at u k rest n)
lowest_place u k {w} {low} {rest} inside is-low dropped n =
    let p = n / user_limit in
    ap (λ b. eqb (n % user_limit) u && (eqb (p / word_bits) k && b)) (lowest_or_left is-low dropped (p % word_bits))
    ∙ spread (eqb (n % user_limit) u) (eqb (p / word_bits) k) (eqb (p % word_bits) low) (bit rest (p % word_bits))
    ∙ ap (λ b. (eqb (n % user_limit) u && b) || put_at u k rest n)
    (sym (same_digits word_bits k low p is-low.within))
    ∙ ap (λ b. b || put_at u k rest n) (sym (same_digits user_limit (k * word_bits + low) u n inside))

pub one_put_in : (u k some : ℕ) {w low rest : ℕ} (before now after : List ℕ) → u < user_limit
    → PuttingIn u k some w before now
    → Lowest word_bits (bit w) low → LowestDropped w rest
    → length after ≡ length now
    → ((n : ℕ) → marked after n ≡ (marked now n || eqb n ((k * word_bits + low) * user_limit + u)))
    → PuttingIn u k some rest before after
one_put_in u k some {w} {low} {rest} before now after inside so_far is-low dropped same says = record {
  sized = same ∙ so_far.sized;
  lacks = λ n.
      rw (says n)
      (or_assoc (marked now n) (eqb n ((k * word_bits + low) * user_limit + u)) (put_at u k rest n)
      ∙ ap (λ b. marked now n || b) (sym (lowest_place u k inside is-low dropped n)) ∙ so_far.lacks n);
}

pub all_put_in : (u k some : ℕ) (before now : List ℕ) → PuttingIn u k some 0 before now → PutIn u k some before now
all_put_in u k some before now so_far = record {
  sized = so_far.sized;
  says = λ n. sym (or-false (marked now n))
      ∙ ap (λ b. marked now n || b) (sym (none n)) ∙ so_far.lacks n;
}
  where
    none : (n : ℕ) → put_at u k 0 n ≡ false
    none n =
        rw (bit_of_zero (n / user_limit % word_bits), and-false (eqb (n / user_limit / word_bits) k))
        (and-false (eqb (n % user_limit) u))

-- ---- the words of a row

-- user u is put into the columns of the permissions at the first k words of the row
pub record PutWords (rows : List ℕ) (u k : ℕ) (before now : List ℕ) : Type 0 where
  pub sized : length now ≡ length before
  pub says : (n : ℕ) → marked now n ≡ (marked before n || (eqb (n % user_limit) u
      && (ltb (n / user_limit / word_bits) k && held_in rows (n / user_limit) u)))

pub no_words_put : (rows : List ℕ) (u : ℕ) (before : List ℕ) → PutWords rows u 0 before before
no_words_put rows u before = record {
  sized = refl;
  says = λ n.
      rw (le-ltb (n / user_limit / word_bits) 0 (omega arith), and-false (eqb (n % user_limit) u))
      (sym (or-false (marked before n)));
}

gather : (m a x y : Bool) → ((m || (a && x)) || (a && y)) ≡ (m || (a && (x || y)))
gather true a x y = refl
gather false true x y = refl
gather false false x y = refl

pub next_word_put : (rows : List ℕ) (u k : ℕ) (before now after : List ℕ) → PutWords rows u k before now
    → PutIn u k (get_or rows (u * row_words + k) 0) now after → PutWords rows u (k + 1) before after
next_word_put rows u k before now after earlier here = record {
  sized = here.sized ∙ earlier.sized;
  says = λ n. let p = n / user_limit in
      here.says n ∙ rw (earlier.says n)
      (gather (marked before n) (eqb (n % user_limit) u) (ltb (p / word_bits) k && held_in rows p u)
      (eqb (p / word_bits) k && bit (get_or rows (u * row_words + k) 0) (p % word_bits))
      ∙ ap (λ b. marked before n || (eqb (n % user_limit) u && b))
      (next_below (λ m. bit (get_or rows (u * row_words + m) 0) (p % word_bits)) (p / word_bits) k));
}

-- user u is put into the columns of all permissions held
pub record PutRow (rows : List ℕ) (u : ℕ) (before after : List ℕ) : Type 0 where
  pub sized : length after ≡ length before
  pub says : (n : ℕ) → n < place_limit → marked after n ≡ (marked before n || (eqb (n % user_limit) u
      && held_in rows (n / user_limit) u))

pub row_put : (rows : List ℕ) (u : ℕ) (before after : List ℕ) → PutWords rows u row_words before after
    → PutRow rows u before after
row_put rows u before after all = record {
  sized = all.sized;
  says = λ n l. all.says n
      ∙ rw (lt-ltb (n / user_limit / word_bits) row_words (word_in_row (n / user_limit) (permission_at n l)));
}

-- ---- all users

-- the users below u are put in
pub record PutInBelow (rows : List ℕ) (u : ℕ) (columns : List ℕ) : Type 0 where
  pub says : (n : ℕ) → n < place_limit → marked columns n ≡ (ltb (n % user_limit) u && place_held rows n)

pub none_put_in : (rows : List ℕ) (count : ℕ) → PutInBelow rows 0 (replicate count 0)
none_put_in rows count = record { says = λ n l. no_cells count n ∙ rw (le-ltb (n % user_limit) 0 (omega arith)) }

pub next_put_in : (rows : List ℕ) (u : ℕ) (before after : List ℕ) → PutInBelow rows u before
    → PutRow rows u before after → PutInBelow rows (u + 1) after
next_put_in rows u before after earlier here = record {
  says = λ n l. here.says n l
      ∙ rw (earlier.says n l) (next_below (held_in rows (n / user_limit)) (n % user_limit) u);
}

pub columns_made : (rows columns : List ℕ) → length columns ≡ row_bits * column_words → PutInBelow rows user_limit
    columns → Columns rows columns
columns_made rows columns sized all = record {
  inside = λ n l. all.says n l ∙ rw (lt-ltb (n % user_limit) user_limit (mod-lt n some_users));
  outside = λ n l. rw (get_or-eq_default columns 0 (past n l)) (bit_of_zero (n % word_bits));
}
  where
    past : (n : ℕ) → place_limit ≤ n → length columns ≤ n / word_bits
    past n l = rw sized (past_places n l)
