-- `product::agreement::row_agrees`: the row is the user's part of the sheet's rows exactly where all its cells agree.
use Rattle.std.proofs.Common.{◌≡◌, ℕ, ◌+◌, ◌*◌, ◌-◌, ◌≤◌, ◌<◌, List, length, take, drop, get_or, arith, rules}
use Rattle.std.proofs.lemmas.List.{places}
use Rattle.std.proofs.lemmas.Bool.Decides.{Decides-eqb, same_from_decides}
use Rattle.std.proofs.lemmas.Slice.Eq.{slice_eq-Decides}
use Rattle.cell_rows.specs.Rows.{row_words}
use Rattle.product.specs.Laws.WordsAgree.{agrees_where_same}
use Rattle.product.proofs.agreement.row_agrees.Goals as goal

-- a part of so many words, and its words
part_size : (rows : List ℕ) (at n : ℕ) → at + n ≤ length rows → length (take n (drop at rows)) ≡ n
part_size rows at n room = grind (arith, places)

word_of_part : (rows : List ℕ) (at n k : ℕ) → k < n → at + n ≤ length rows
    → get_or (take n (drop at rows)) k 0 ≡ get_or rows (at + k) 0
word_of_part rows at n k l room = grind (arith, places)

pub returns : goal.returns
unfolding row_words
returns c =
    let a = c.args in
    let at = a.u.0 * row_words in
    let size : at + row_words - at ≡ row_words = omega arith in
    let room : at + row_words ≤ length a.rows.now = omega arith in
    same_from_decides _ _ (slice_eq-Decides Decides-eqb _ _ _ (rw size at c.eq.ensures))
    (agrees_where_same a.rows.now a.has.now a.gives.now a.roles a.u.0 c.row_after-after.ensures (search rules)
    (part_size a.rows.now at row_words room) (λ k l. word_of_part a.rows.now at row_words k l room) (search rules)
    (search rules))
