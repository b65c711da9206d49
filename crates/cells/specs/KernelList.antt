-- The cells of a set in an array, word by word and within a word from its lowest position on. Where the array has
-- room for all of them it has them in order.
use Rattle.std.specs.Prelude.{ℕ, suc, ◌+◌, ◌*◌, ◌/◌, ◌%◌, ◌^◌, ◌≤◌, ◌<◌, ◌≡◌, refl, false, not, ◌&&◌, List, [], ◌∷◌, ◌++◌, eqb, length, get_or, take, set, replicate}
use Rattle.std.proofs.Common.{zero-le, le_refl, add-one, arith, sym, ap, ◌∙◌, ⊎_elim, eq-eqb, ne_eqb, length-set, length-append, take-suc-set, length-take-le}
use Rattle.std.proofs.Math.Bool.{So, and-true, and-false}
use Rattle.std.proofs.lemmas.Bool.{false≢true}
use Rattle.std.specs.Int.Count.{count_trailing_zeros}
use Rattle.std.proofs.lemmas.List.{length-replicate}
use Rattle.spec.specs.Limits.{grant_limit}
use Rattle.bits.specs.Counting.{Lowest}
use Rattle.bits.specs.Laws.Below.{below_or_from}
use Rattle.bits.specs.Bit.{bit, word_bits}
use Rattle.bits.specs.Laws.Bit.{bit_of_zero}
use Rattle.bits.specs.Laws.Count.{count_below_more}
use Rattle.bits.specs.Word.{LowestDropped}
use Rattle.bits.specs.Laws.Word.{lowest_trailing}
use Rattle.lists.specs.PassingBelow.{passing_below, passing_until, passing_next, passing_length}
use Rattle.cell_rows.specs.Rows.{row_bits}
use Rattle.cells.specs.Blank.{BlankFrom, zeros_blank, set_blank}
use Rattle.cell_rows.specs.CellPlaces.{marked}
use Rattle.cells.specs.KernelArray.{Roomy, Listed}

fewer_roomy : (left : List ℕ) (m n : ℕ) → m ≤ n → Roomy left n → Roomy left m
fewer_roomy left m n l h =
    omega (arith, count_below_more m n (marked left) l, passing_length m (marked left), passing_length n (marked left))

-- the cells below n that are set stand in the array
pub record ListedTo (left : List ℕ) (n : ℕ) (cells : List ℕ) (size : ℕ) : Type 0 where
  pub room : length cells ≡ grant_limit
  pub few : size ≤ grant_limit
  pub so_far : Roomy left n → take size cells ≡ passing_below n (marked left)
  pub past : BlankFrom size cells

pub none_listed : (left : List ℕ) (n : ℕ) → n ≡ grant_limit → ListedTo left 0 (replicate n 0) 0
unfolding passing_below
none_listed left n e =
    record { room = length-replicate {A = ℕ} n 0 ∙ e; few = zero-le; so_far = λ h. refl; past = zeros_blank 0 n }

-- ---- within a word

-- w has the positions of word i from a place on, and the cells before that place stand in the array
pub record WordRest (left : List ℕ) (i w : ℕ) (cells : List ℕ) (size : ℕ) : Type 0 where
  pub place : ℕ
  pub fits : w < 2 ^ word_bits
  pub inside : place ≤ word_bits
  pub passed : (q : ℕ) → q < place → bit w q ≡ false
  pub ahead : (q : ℕ) → place ≤ q → bit w q ≡ bit (get_or left i 0) q
  pub listed : ListedTo left (i * word_bits + place) cells size

pub word_starts : (left : List ℕ) (i word : ℕ) (cells : List ℕ) (size : ℕ) → word < 2 ^ word_bits
    → get_or left i 0 ≡ word
    → ListedTo left (i * word_bits) cells size → WordRest left i word cells size
word_starts left i word cells size fits e h =
    let same : i * word_bits + 0 ≡ i * word_bits = omega arith in
    record {
      place = 0;
      fits = fits;
      inside = zero-le;
      passed = λ q l. absurd (omega arith);
      ahead = λ q l. rw e;
      listed = rw same h;
    }

module _ {left : List ℕ} {i w : ℕ} {cells : List ℕ} {size : ℕ} (rest : WordRest left i w cells size) where
  -- where no position of w is below j, no cell from the place on up to that of j is set
  none_between : (j : ℕ) → j ≤ word_bits → ((q : ℕ) → q < j → bit w q ≡ false) → (n : ℕ) → i * word_bits + rest.place
      ≤ n → n < i * word_bits + j
      → marked left n ≡ false
  none_between j inside none n k l =
      let word : n / word_bits ≡ i = omega arith in
      rw word (sym (rest.ahead (n % word_bits) (omega arith)) ∙ none (n % word_bits) (omega arith))

  module _ {j : ℕ} (low : Lowest word_bits (bit w) j) where
    not_passed : rest.place ≤ j
    not_passed = ⊎_elim (λ k. absurd (false≢true (sym (rest.passed j k) ∙ low.holds))) (λ k. k)
        (below_or_from j rest.place)

    cell_set : So (marked left (i * word_bits + j))
    cell_set =
        let inside = low.within in
        let word : (i * word_bits + j) / word_bits ≡ i = omega arith in
        let position : (i * word_bits + j) % word_bits ≡ j = omega arith in
        rw (word, position) (sym (rest.ahead j not_passed) ∙ low.holds)

    -- one cell more
    one_cell : passing_below (i * word_bits + (j + 1)) (marked left) ≡ passing_below (i * word_bits + rest.place)
        (marked left) ++ (i * word_bits + j) ∷ []
    one_cell =
        let inside = low.within in
        let next : i * word_bits + (j + 1) ≡ suc (i * word_bits + j) = omega arith in
        ap (λ (n : ℕ). passing_below n (marked left)) next
        ∙ passing_next (i * word_bits + j) (marked left) cell_set
        ∙ ap (λ (l : List ℕ). l ++ (i * word_bits + j) ∷ [])
        (passing_until (i * word_bits + rest.place) (i * word_bits + j) (marked left) (omega (arith, not_passed))
        (none_between j (omega arith) low.first))

    pub next_listed : {r : ℕ} → size < grant_limit → LowestDropped w r
        → WordRest left i r (set cells size (i * word_bits + j)) (size + 1)
    next_listed {r} fewer dropped =
        record {
          place = j + 1;
          fits = omega (arith, dropped.less, rest.fits);
          inside = omega (arith, low.within);
          passed = λ q l. dropped.others low q ∙ ⊎_elim (λ k. rw (low.first q k)) (λ k. here q l k)
              (below_or_from q j);
          ahead = λ q l.
              dropped.others low q ∙ rw (ne_eqb q j (omega arith)) (and-true (bit w q))
              ∙ rest.ahead q (omega (arith, not_passed));
          listed = record {
            room = simp length-set rest.listed.room;
            few = omega arith;
            so_far = listed_so_far;
            past = set_blank (i * word_bits + j) rest.listed.past;
          };
        }
      where
        here : (q : ℕ) → q < j + 1 → j ≤ q → (bit w q && not (eqb q j)) ≡ false
        here q l k = rw (eq-eqb q j (omega arith)) (and-false (bit w q))

        listed_so_far : Roomy left (i * word_bits + (j + 1))
            → take (size + 1) (set cells size (i * word_bits + j)) ≡ passing_below (i * word_bits + (j + 1))
            (marked left)
        listed_so_far h =
            rw (add-one size, take-suc-set cells size (i * word_bits + j) (rw rest.listed.room fewer), one_cell)
            (ap (λ (l : List ℕ). l ++ (i * word_bits + j) ∷ [])
            (rest.listed.so_far
            (fewer_roomy left (i * word_bits + rest.place) (i * word_bits + (j + 1)) (omega (arith, not_passed)) h)))

  -- the end of the word
  pub word_listed : w ≡ 0 → ListedTo left ((i + 1) * word_bits) cells size
  word_listed e =
      record {
        room = rest.listed.room;
        few = rest.listed.few;
        so_far = λ h.
            rest.listed.so_far (fewer_roomy left (i * word_bits + rest.place) ((i + 1) * word_bits)
            (omega (arith, rest.inside)) h)
            ∙ sym (passing_until (i * word_bits + rest.place) ((i + 1) * word_bits) (marked left)
            (omega (arith, rest.inside))
            (λ n k l. none_between word_bits (le_refl word_bits) (λ q m. rw e (bit_of_zero q)) n k (omega arith)));
        past = rest.listed.past;
      }

  -- a full array and a cell more
  pub word_cut : grant_limit ≤ size → 0 < w → ListedTo left ((i + 1) * word_bits) cells size
  word_cut full more = record {
    room = rest.listed.room;
    few = rest.listed.few;
    so_far = λ h. absurd (too_many h);
    past = rest.listed.past;
  }
    where
      too_many : Roomy left ((i + 1) * word_bits) → ⊥
      too_many h =
          let j = count_trailing_zeros word_bits w in
          let low = lowest_trailing word_bits w more rest.fits in
          let last = fewer_roomy left (i * word_bits + (j + 1)) ((i + 1) * word_bits) (omega (arith, low.within)) h in
          let earlier =
          rest.listed.so_far
          (fewer_roomy left (i * word_bits + rest.place) (i * word_bits + (j + 1)) (omega (arith, not_passed low))
          last) in
          omega (
            arith,
            last,
            ap length (one_cell low),
            length-append (passing_below (i * word_bits + rest.place) (marked left)) ((i * word_bits + j) ∷ []),
            ap length earlier,
            length-take-le size cells (rw rest.listed.room rest.listed.few),
          )

-- the set in the array
pub all_listed : {left : List ℕ} {users : ℕ} {cells : List ℕ} {size : ℕ} → Roomy left (users * row_bits)
    → ListedTo left (users * row_bits) cells size
    → Listed left users cells size
all_listed roomy h = record { few = h.few; in_order = h.so_far roomy; past = h.past }
