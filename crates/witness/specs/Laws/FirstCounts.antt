-- The first counts, gathered. A grant of user u fits one of user v where v holds its permission, if u holds the
-- other's: so the count of v's grant is the sum of the shares of the users in its permission's column.
use Rattle.std.specs.Prelude.{ℕ, ◌+◌, ◌*◌, ◌/◌, ◌%◌, ◌≤◌, ◌<◌, ◌≡◌, refl, Bool, false, ◌&&◌, ◌||◌, cond, List, eqb, ltb, length, get_or, set, replicate}
use Rattle.std.proofs.Common.{add-zero, arith, sym, ap, ap₂, ◌∙◌, ⊎_elim, eqb-true, lt-ltb, le-ltb, length-set, get_or-set_same, get_or-set_other}
use Rattle.std.proofs.Math.Nat.{le_dest}
use Rattle.std.proofs.Math.Bool.{So, and-true, and-false}
use Rattle.std.proofs.Math.Arith.{digits_lt, digits_div, digits_mod}
use Rattle.std.proofs.lemmas.List.{length-replicate}
use Rattle.spec.specs.Limits.{user_limit}
use Rattle.bits.specs.Truth.{passes_or_fails, and_left}
use Rattle.bits.specs.Laws.Below.{below_or_from}
use Rattle.bits.specs.Laws.Count.{count_below_le, count_below_ext, count_below_none_intro}
use Rattle.bits.specs.Laws.Sum.{sum_below_ext, sum_below_add, sum_below_none, sum_below_le}
use Rattle.bits.specs.Bit.{bit, word_bits}
use Rattle.cell_rows.specs.Rows.{row_words, row_bits, cell}
use Rattle.cell_rows.specs.CellPlaces.{cell_limit, marked, near}
use Rattle.cell_rows.specs.Laws.Width.{rows_cells, permission_below}
use Rattle.cells.specs.MadeCells.{MadeCells}
use Rattle.cells.specs.Laws.CellPlace.{cell_marked}
use Rattle.cells.specs.Laws.MadeCells.{getD_zeros}
use Rattle.cells.specs.Laws.NextBelow.{next_below}
use Rattle.fit.specs.Columns.{column_words, near_in_row, Columns}
use Rattle.fit.specs.Laws.Column.{word_sum}
use Rattle.fit.specs.Laws.ColumnPlaces.{column_from}
use Rattle.fit.specs.Laws.FitWord.{marked_in_word}
use Rattle.witness.specs.CountChange.{shared, ChangedAt, in_row, of_user, of_users_below}
use Rattle.witness.specs.Counts.{near_below, Counted}
use Rattle.witness.specs.FirstCounts.{share, SharesOf, Bounded, gathered_below, gathered}
use Rattle.witness.specs.Laws.Row.{cell_by_user}

-- ---- the shares

module _ (rows left : List ℕ) (v : ℕ) where
  pub no_shares : SharesOf rows left v 0 (replicate user_limit 0)
  no_shares = record {
    sized = length-replicate user_limit 0;
    each = λ u l. absurd (omega arith);
    past = λ u l. getD_zeros user_limit u;
  }

  pub next_share : (u : ℕ) (shares row : List ℕ) (n : ℕ) → SharesOf rows left v u shares → u < user_limit
      → MadeCells (cell left u) row_bits row → n ≡ shared rows row v → SharesOf rows left v (u + 1) (set shares u n)
  next_share u shares row n so_far inside made is_share = record {
    sized = length-set shares u n ∙ so_far.sized;
    each = λ w l. ⊎_elim (λ k. get_or-set_other shares u w n 0 (omega arith) ∙ so_far.each w k) (latest w l)
        (below_or_from w u);
    past = λ w l. get_or-set_other shares u w n 0 (omega arith) ∙ so_far.past w (omega arith);
  }
    where
      latest : (w : ℕ) → w < u + 1 → u ≤ w → get_or (set shares u n) w 0 ≡ share rows left v w
      latest w l k =
          let same : w ≡ u = omega arith in
          rw same (get_or-set_same shares u n 0 (rw so_far.sized inside) ∙ is_share
          ∙ count_below_ext row_bits (λ p. marked row p && cell rows v p) (λ p. cell left u p && cell rows v p)
          (λ p m. ap (λ b. b && cell rows v p) (made.inside p m)))

  pub shares_bounded : (users : ℕ) (shares : List ℕ) → SharesOf rows left v users shares → Bounded shares
  shares_bounded users shares all u =
      ⊎_elim (λ l. rw (all.each u l) (count_below_le row_bits (λ p. cell left u p && cell rows v p)))
      (λ l. rw (all.past u l) (omega arith)) (below_or_from u users)

-- ---- the sums

one_bounded : (b : Bool) (n most : ℕ) → n ≤ most → cond b n 0 ≤ most
one_bounded b n most l = ⊎_elim (λ e. rw e l) (λ e. rw e (omega arith)) (passes_or_fails b)

module _ (shares : List ℕ) (bounded : Bounded shares) where
  pub word_sum_le : (j word : ℕ) → word_sum (λ q. get_or shares (j * word_bits + q) 0) word ≤ word_bits * row_bits
  word_sum_le j word =
      sum_below_le word_bits row_bits (λ q. cond (bit word q) (get_or shares (j * word_bits + q) 0) 0)
      (λ q l. one_bounded (bit word q) (get_or shares (j * word_bits + q) 0) row_bits (bounded (j * word_bits + q)))

  pub gathered_le : (columns : List ℕ) (p end : ℕ) → gathered_below columns shares p end ≤ end * row_bits
  gathered_le columns p end =
      sum_below_le end row_bits (λ u. cond (marked columns (p * user_limit + u)) (get_or shares u 0) 0)
      (λ u l. one_bounded (marked columns (p * user_limit + u)) (get_or shares u 0) row_bits (bounded u))

-- the users of one more word of the column
pub gathered_next_word : (columns shares : List ℕ) (p j : ℕ)
    → gathered_below columns shares p ((j + 1) * word_bits)
    ≡ gathered_below columns shares p (j * word_bits) + word_sum (λ q. get_or shares (j * word_bits + q) 0)
    (get_or columns (p * column_words + j) 0)
gathered_next_word columns shares p j =
    let more : (j + 1) * word_bits ≡ j * word_bits + word_bits = omega arith in
    rw (
      more,
      sum_below_add (j * word_bits) word_bits (λ u. cond (marked columns (p * user_limit + u))
          (get_or shares u 0) 0),
    )
    (ap (λ n. gathered_below columns shares p (j * word_bits) + n)
    (sum_below_ext word_bits (λ q. cond (marked columns (p * user_limit + (j * word_bits + q)))
    (get_or shares (j * word_bits + q) 0) 0)
    (λ q. cond (bit (get_or columns (p * column_words + j) 0) q) (get_or shares (j * word_bits + q) 0) 0)
    (λ q l. ap (λ b. cond b (get_or shares (j * word_bits + q) 0) 0) (position q l))))
  where
    position : (q : ℕ) → q < word_bits
        → marked columns (p * user_limit + (j * word_bits + q)) ≡ bit (get_or columns (p * column_words + j) 0) q
    position q l =
        let place : p * user_limit + (j * word_bits + q) ≡ (p * column_words + j) * word_bits + q =
        omega (arith, column_from p) in
        ap (marked columns) place ∙ marked_in_word columns (p * column_words + j) q l

-- ---- the counts

-- the permission of a position in a row's word
pub permission_of_position : (v k q : ℕ) → k < row_words → q < word_bits
    → ((v * row_words + k) * word_bits + q) % row_bits ≡ k * word_bits + q
unfolding row_bits
permission_of_position v k q l m =
    let place : (v * row_words + k) * word_bits + q ≡ v * row_bits + (k * word_bits + q) = omega (arith, rows_cells v)
    in ap (λ n. n % row_bits) place ∙ digits_mod v (digits_lt l m)

module _ (rows left : List ℕ) (n u : ℕ) where
  near_by_user : (p : ℕ) → p < row_bits
      → near rows left n (u * row_bits + p) ≡ (cell left u p
      && (cell rows (n / row_bits) p && cell rows u (n % row_bits)))
  near_by_user p l = ap₂ (λ a b. a && b) (cell_by_user left u p) (rw (digits_div u l, digits_mod u l))

  -- how many grants of user u fit a grant
  near_shared : near_in_row rows left n u ≡ cond (cell rows u (n % row_bits)) (share rows left (n / row_bits) u) 0
  near_shared = ⊎_elim
      (λ e. rw e (count_below_ext row_bits (λ p. near rows left n (u * row_bits + p))
      (λ p. cell left u p && cell rows (n / row_bits) p)
      (λ p l. near_by_user p l ∙ ap (λ b. cell left u p && b) (ap (λ b. cell rows (n / row_bits) p && b) e
      ∙ and-true (cell rows (n / row_bits) p)))))
      (λ e. rw e (count_below_none_intro row_bits (λ p. near rows left n (u * row_bits + p))
      (λ p l. near_by_user p l ∙ ap (λ b. cell left u p && b) (ap (λ b. cell rows (n / row_bits) p && b) e
      ∙ and-false (cell rows (n / row_bits) p)) ∙ and-false (cell left u p))))
      (passes_or_fails (cell rows u (n % row_bits)))

-- the shares of the users in the column of a grant's permission make its count
pub gathered_all : (rows columns left shares : List ℕ) (users n : ℕ) → Columns rows columns → users ≤ user_limit
    → SharesOf rows left (n / row_bits) users shares
    → gathered columns shares (n % row_bits) ≡ near_below rows left n users
gathered_all rows columns left shares users n made few all =
    let more = le_dest few in
    ap (gathered_below columns shares (n % row_bits)) (sym more.1)
    ∙ sum_below_add users more.0 taken
    ∙ ap₂ (λ a b. a + b)
    (sum_below_ext users taken (near_in_row rows left n) (λ u l.
    ap₂ (λ b k. cond b k 0) (in_column u (omega arith)) (all.each u l) ∙ sym (near_shared rows left n u)))
    (sum_below_none more.0 (λ i. taken (users + i)) (λ i l.
    nothing (marked columns (n % row_bits * user_limit + (users + i))) (get_or shares (users + i) 0)
    (all.past (users + i) (omega arith))))
    ∙ add-zero (near_below rows left n users)
  where
    taken : ℕ → ℕ
    taken u = cond (marked columns (n % row_bits * user_limit + u)) (get_or shares u 0) 0

    in_column : (u : ℕ) → u < user_limit → marked columns (n % row_bits * user_limit + u) ≡ cell rows u (n % row_bits)
    in_column u l =
        made.inside (n % row_bits * user_limit + u) (digits_lt (permission_below n) l)
        ∙ rw (digits_div (n % row_bits) l, digits_mod (n % row_bits) l)

    nothing : (b : Bool) (k : ℕ) → k ≡ 0 → cond b k 0 ≡ 0
    nothing b k none = ⊎_elim (λ e. rw e none) (λ e. rw e) (passes_or_fails b)

-- the counts of one user
module _ (rows left : List ℕ) (users v : ℕ) (row : List ℕ) (made : MadeCells (cell left v) row_bits row) where
  own_row : (n : ℕ) → in_row v row n ≡ of_user left v n
  own_row n = ⊎_elim
      (λ e. ap (λ b. eqb (n / row_bits) v && b) (made.inside (n % row_bits) (permission_below n)
      ∙ ap (λ w. cell left w (n % row_bits)) (sym (eqb-true (n / row_bits) v e)) ∙ cell_marked left n))
      (λ e. rw e) (passes_or_fails (eqb (n / row_bits) v))

  pub user_counted : (columns shares before after : List ℕ) → Columns rows columns → users ≤ user_limit
      → SharesOf rows left v users shares
      → ChangedAt (in_row v row) (λ n count. gathered columns shares (n % row_bits)) before after
      → ChangedAt (of_user left v) (λ n count. near_below rows left n users) before after
  user_counted columns shares before after columns_made few all changed = record {
    sized = changed.sized;
    says = λ n. changed.says n
        ∙ ap (λ b. cond b (gathered columns shares (n % row_bits)) (get_or before n 0)) (own_row n)
        ∙ ⊎_elim (λ (e : So (of_user left v n)). rw e (gathered_all rows columns left shares users n columns_made few
        (rw (user n e) all)))
        (λ e. rw e) (passes_or_fails (of_user left v n));
  }
    where
      user : (n : ℕ) → So (of_user left v n) → n / row_bits ≡ v
      user n e = eqb-true (n / row_bits) v (and_left (eqb (n / row_bits) v) (marked left n) e)

  -- a user without grants has no counts
  pub no_user_counted : ((n : ℕ) → in_row v row n ≡ false) → (before : List ℕ)
      → ChangedAt (of_user left v) (λ n count. near_below rows left n users) before before
  no_user_counted none before = record { sized = refl; says = λ n. rw (sym (own_row n) ∙ none n) }

-- ---- all users

-- the grants of the first v users are counted, and at every other cell there is 0
pub record Gathered (rows left : List ℕ) (users v : ℕ) (counts : List ℕ) : Type 0 where
  pub sized : length counts ≡ cell_limit
  pub so_far : (n : ℕ) → get_or counts n 0 ≡ cond (of_users_below left v n) (near_below rows left n users) 0

module _ (rows left : List ℕ) (users : ℕ) where
  pub gathering_starts : Gathered rows left users 0 (replicate cell_limit 0)
  gathering_starts = record {
    sized = length-replicate cell_limit 0;
    so_far = λ n. getD_zeros cell_limit n ∙ rw (le-ltb (n / row_bits) 0 (omega arith));
  }

  pub gathering_goes_on : (v : ℕ) (before after : List ℕ) → Gathered rows left users v before
      → ChangedAt (of_user left v) (λ n count. near_below rows left n users) before after
      → Gathered rows left users (v + 1) after
  gathering_goes_on v before after earlier changed = record {
    sized = changed.sized ∙ earlier.sized;
    so_far = λ n. changed.says n ∙ rw (earlier.so_far n)
        (joined (of_users_below left v n) (of_user left v n) (near_below rows left n users)
        ∙ ap (λ b. cond b (near_below rows left n users) 0) (next_below (λ m. marked left n) (n / row_bits) v));
  }
    where
      joined : (a b : Bool) (k : ℕ) → cond b k (cond a k 0) ≡ cond (a || b) k 0
      joined a b k = ⊎_elim (λ e. rw e (⊎_elim (λ f. rw f) (λ f. rw f) (passes_or_fails b))) (λ e. rw e)
          (passes_or_fails a)

  pub gathering_ends : (counts : List ℕ) → Gathered rows left users user_limit counts
      → Counted rows left users counts × ((n : ℕ) → marked left n ≡ false → get_or counts n 0 ≡ 0)
  gathering_ends counts whole = (
    record {
      sized = whole.sized;
      exact = λ n l p. rw (p, lt-ltb (n / row_bits) user_limit l) at (whole.so_far n);
    },
    λ n f. whole.so_far n ∙ rw (f, and-false (ltb (n / row_bits) user_limit)),
  )
