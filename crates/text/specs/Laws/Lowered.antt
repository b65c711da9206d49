-- Equal names: bytes with `A-Z` read as `a-z`. Being equal is an equivalence, equal bytes are equal names, and equal
-- names are as long. No byte becomes a comma or a line feed and these two stay, so a name without them has none in other
-- case. Each law follows from what is said of one byte. Assumes nothing.
use Rattle.std.specs.Prelude.{ℕ, suc, ◌+◌, ◌-◌, ◌%◌, ◌<◌, ◌≡◌, refl, ◌≢◌, false, ◌&&◌, List, [], eqb, length, get_or, drop}
use Prim.Native.Char.{code}
use Rattle.std.proofs.Common.{arith, sym, ap, ◌∙◌, ⊎_elim, eqb-true, eq-eqb, ne_eqb, drop-cons}
use Rattle.std.proofs.Math.Bool.{So}
use mathlib.Core.List.Memᴰ
use Rattle.std.proofs.lemmas.Bool.{eqb-false}
use Rattle.std.proofs.lemmas.List.{length-map}
use Rattle.spec.specs.Vocabulary.{repeats}
use Rattle.spec.specs.Text.{Bytes, comma, line_feed, between, lower, lowered, same_name}
use Rattle.bits.specs.Truth.{passes_or_fails, fails_unless, not_both}
use Rattle.lists.specs.TestLaws.{same_bytes_equal, equal_same_bytes}
use Rattle.lists.specs.CutLaws.{Free}
use Rattle.lists.specs.SameLaws.{repeats_intro, repeats_nowhere}
use Rattle.text.specs.Laws.Text.{Field}
use Rattle.text.specs.Laws.Byte.{between_intro, between_low, between_high}

-- ---- one byte

-- a byte that is no capital stays
pub lower_stays : (b : ℕ) → between (code "A") (code "Z") b ≡ false → lower b ≡ b
unfolding lower
lower_stays b e = rw e

pub lower_capital : (b : ℕ) → So (between (code "A") (code "Z") b) → lower b ≡ code "a" + (b - code "A")
unfolding lower
lower_capital b p = rw p

-- a capital and its small letter leave the same when they are divided by 32
pub lower_leaves : (b : ℕ) → lower b % 32 ≡ b % 32
lower_leaves b =
    ⊎_elim
    (λ p.
    let low = between_low (code "A") (code "Z") b p in
    let here : lower b ≡ b + 32 = lower_capital b p ∙ omega arith in
    rw here (omega arith))
    (λ f. ap (λ (c : ℕ). c % 32) (lower_stays b f))
    (passes_or_fails (between (code "A") (code "Z") b))

-- nothing else becomes a byte that is no small letter
pub lower_only : (b c : ℕ) → between (code "a") (code "z") c ≡ false → lower b ≡ c → b ≡ c
lower_only b c e same =
    ⊎_elim
    (λ p.
    let low = between_low (code "A") (code "Z") b p in
    let high = between_high (code "A") (code "Z") b p in
    absurd (not_both (between_intro (code "a") (code "z") c (omega (arith, same, lower_capital b p)) (omega (
      arith,
      same,
      lower_capital b p,
    ))) e))
    (λ f. sym (lower_stays b f) ∙ same)
    (passes_or_fails (between (code "A") (code "Z") b))

-- so a test for such a byte finds it or not, lowered or not
lower_tested : (b c : ℕ) → between (code "a") (code "z") c ≡ false → lower c ≡ c → eqb c (lower b) ≡ eqb c b
lower_tested b c small stays =
    ⊎_elim
    (λ p. p ∙ sym (eq-eqb c b (sym (lower_only b c small (sym (eqb-true c (lower b) p))))))
    (λ f. f ∙ sym (ne_eqb c b (λ e. eqb-false c (lower b) f (sym stays ∙ ap lower e))))
    (passes_or_fails (eqb c (lower b)))

pub lower_comma : (b : ℕ) → eqb comma (lower b) ≡ eqb comma b
lower_comma b = lower_tested b comma refl (lower_stays comma refl)

pub lower_line_feed : (b : ℕ) → eqb line_feed (lower b) ≡ eqb line_feed b
lower_line_feed b = lower_tested b line_feed refl (lower_stays line_feed refl)

-- ---- equal names

pub same_name_elim : (a b : Bytes) → So (same_name a b) → lowered a ≡ lowered b
same_name_elim a b p = same_bytes_equal (lowered a) (lowered b) p

pub same_name_intro : (a b : Bytes) → lowered a ≡ lowered b → So (same_name a b)
same_name_intro a b e = equal_same_bytes e

-- an equivalence
pub same_name_refl : (a : Bytes) → So (same_name a a)
same_name_refl a = same_name_intro a a refl

pub same_name_sym : (a b : Bytes) → So (same_name a b) → So (same_name b a)
same_name_sym a b p = same_name_intro b a (sym (same_name_elim a b p))

pub same_name_trans : (a b c : Bytes) → So (same_name a b) → So (same_name b c) → So (same_name a c)
same_name_trans a b c p q = same_name_intro a c (same_name_elim a b p ∙ same_name_elim b c q)

-- equal bytes are equal names
pub equal_same_name : (a b : Bytes) → a ≡ b → So (same_name a b)
equal_same_name a b e = same_name_intro a b (ap lowered e)

-- equal names are as long
pub lowered_length : (a b : Bytes) → lowered a ≡ lowered b → length a ≡ length b
lowered_length a b e = sym (length-map a lower) ∙ ap length e ∙ length-map b lower

pub same_name_length : (a b : Bytes) → So (same_name a b) → length a ≡ length b
same_name_length a b p = lowered_length a b (same_name_elim a b p)

-- the letters at place i, then the rests
pub same_name_drop : (a b : Bytes) (i : ℕ) → i < length a → i < length b
    → same_name (drop i a) (drop i b)
    ≡ (eqb (lower (get_or a i 0)) (lower (get_or b i 0)) && same_name (drop (suc i) a) (drop (suc i) b))
same_name_drop a b i h k = rw (drop-cons a i 0 h, drop-cons b i 0 k)

-- ---- names no two of which are equal

-- no two names are equal
abbrev pub NamesApart : List Bytes → Type 0
NamesApart names = (i j : ℕ) → i < j → j < length names → lowered (get_or names i []) ≢ lowered (get_or names j [])

pub names_apart : (names : List Bytes) → repeats same_name names ≡ false → NamesApart names
names_apart names e i j h k same =
    not_both (repeats_intro same_name [] names i j h k (same_name_intro (get_or names i []) (get_or names j []) same)) e

pub apart_names : (names : List Bytes) → NamesApart names → repeats same_name names ≡ false
apart_names names apart =
    repeats_nowhere same_name [] names (λ i j h k. fails_unless (same_name (get_or names i []) (get_or names j []))
    (λ p. apart i j h k (same_name_elim (get_or names i []) (get_or names j []) p)))

-- ---- names spelled in other case

-- a byte that stands nowhere in a name stands nowhere in an equal one
free_respelled : (s : ℕ) → ((b : ℕ) → eqb s (lower b) ≡ eqb s b) → (a b : Bytes) → lowered a ≡ lowered b
    → Free (eqb s) b → Free (eqb s) a
free_respelled s tested a b e free c m =
    let r = Memᴰ.of_map lower b (rw e at (Memᴰ.map lower m)) in
    sym (tested c) ∙ rw (← r.2) (tested r.0 ∙ free r.0 r.1)

pub field_respelled : {a b : Bytes} → lowered a ≡ lowered b → Field b → Field a
field_respelled {a} {b} e f =
    record {
      no_comma = free_respelled comma lower_comma a b e f.no_comma;
      no_line_feed = free_respelled line_feed lower_line_feed a b e f.no_line_feed;
    }
