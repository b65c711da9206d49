-- What the definitions are said with. Numbers, truth values, lists and equality are the library's, passed on here as
-- they are, under their own names; what it lacks follows: tests, searching below a bound, lists under a test, cutting
-- at separators and joining again. Recursions on a bound look at the last number below it; a `let` holds back what may
-- never be looked at.
pub use Rattle.std.specs.Prelude.{ℕ, zero, suc, ◌+◌, ◌-◌, ◌*◌, ◌/◌, ◌%◌, max, ◌≤◌, ◌<◌, ◌≡◌, ◌≢◌, ◌⊎◌, ◌↔◌, Bool, true, false, ◌&&◌, ◌||◌, not, cond, eqb, leb, ltb, length, get_or, take, drop, replicate}
pub use Prim.Native.Char.{code}
pub use Rattle.std.proofs.Math.Bool.{So}
pub use Rattle.std.specs.Bool.{beq as Bool·beq}
pub use Rattle.std.proofs.Math.Option.{Option, none, some, get_or as Option·getD}
pub use mathlib.Core.List.{List, [], ◌∷◌, ◌++◌, map, tail, reverse, Memᴰ as List-as-Memᴰ}

-- where the first holds, the second does
abbrev pub implies : Bool → Bool → Bool
implies a b = not a || b

-- every number below n passes f
unfoldable pub every_below : ℕ → (ℕ → Bool) → Bool
every_below zero f = true
every_below (suc n) f =
    let earlier : Bool = every_below n f in
    f n && earlier

-- what was found already, or else n where it passes
abbrev pub found_or : Option ℕ → Bool → ℕ → Option ℕ
found_or (some i) passes n = some i
found_or none true n = some n
found_or none false n = none

-- the lowest number below n that passes f
unfoldable pub lowest_below : ℕ → (ℕ → Bool) → Option ℕ
lowest_below zero f = none
lowest_below (suc n) f =
    let last : Bool = f n in
    found_or (lowest_below n f) last n

module _ {A : Type 0} where
  -- there is no element
  abbrev pub empty : List A → Bool
  empty [] = true
  empty (a ∷ rest) = false

  -- some element passes
  abbrev pub any : (A → Bool) → List A → Bool
  any test [] = false
  any test (a ∷ rest) = test a || any test rest

  -- every element passes
  abbrev pub all : (A → Bool) → List A → Bool
  all test [] = true
  all test (a ∷ rest) = test a && all test rest

  -- a in front, where the test passed
  abbrev pub keep : Bool → A → List A → List A
  keep true a rest = a ∷ rest
  keep false a rest = rest

  -- the elements that pass, in their order
  abbrev pub filter : (A → Bool) → List A → List A
  filter test [] = []
  filter test (a ∷ rest) = keep (test a) a (filter test rest)

  -- a, where the test passed, else what was found later
  abbrev pub or_later : Bool → A → Option A → Option A
  or_later true a later = some a
  or_later false a later = later

  -- the first element that passes
  abbrev pub first : (A → Bool) → List A → Option A
  first test [] = none
  first test (a ∷ rest) = or_later (test a) a (first test rest)

  -- what follows from an element that was found, and nothing where none was
  abbrev pub if_found : {B : Type 0} → Option A → (A → List B) → List B
  if_found none then = []
  if_found (some a) then = then a

  -- the one of two with the lesser measure, the earlier on a tie
  abbrev pub lesser : (A → ℕ) → A → Option A → A
  lesser measure a none = a
  lesser measure a (some b) = cond (leb (measure a) (measure b)) a b

  -- the element with the least measure, the earliest on a tie
  abbrev pub least : (A → ℕ) → List A → Option A
  least measure [] = none
  least measure (a ∷ rest) = some (lesser measure a (least measure rest))

  -- some element is the same as a later one
  abbrev pub repeats : (A → A → Bool) → List A → Bool
  repeats same [] = false
  repeats same (a ∷ rest) = any (same a) rest || repeats same rest

  -- the elements of two lists are the same, place by place
  abbrev pub same_by : (A → A → Bool) → List A → List A → Bool
  same_by same [] [] = true
  same_by same [] (b ∷ others) = false
  same_by same (a ∷ rest) [] = false
  same_by same (a ∷ rest) (b ∷ others) = same a b && same_by same rest others

  -- f i, f (i + 1), .., as many as asked
  abbrev pub list_from : ℕ → ℕ → (ℕ → A) → List A
  list_from i zero f = []
  list_from i (suc count) f = f i ∷ list_from (suc i) count f

  -- f 0, f 1, .. f (count - 1)
  abbrev pub list_of : ℕ → (ℕ → A) → List A
  list_of count f = list_from zero count f

  -- a in front of what was cut so far: a separator starts an empty part, any other element joins the first part
  abbrev pub cut : Bool → A → List (List A) → List (List A)
  cut true a later = [] ∷ later
  cut false a [] = (a ∷ []) ∷ []
  cut false a (part ∷ later) = (a ∷ part) ∷ later

  -- the parts that separators end: what follows the last separator is a part only if it is not empty
  abbrev pub ended_by : (A → Bool) → List A → List (List A)
  ended_by separator [] = []
  ended_by separator (a ∷ rest) = cut (separator a) a (ended_by separator rest)

  -- the parts between separators: one more than there are separators
  abbrev pub parted_by : (A → Bool) → List A → List (List A)
  parted_by separator [] = [] ∷ []
  parted_by separator (a ∷ rest) = cut (separator a) a (parted_by separator rest)

  -- parts with one separator between each two
  abbrev pub joined : A → List (List A) → List A
  joined separator [] = []
  joined separator (part ∷ []) = part
  joined separator (part ∷ next ∷ later) = part ++ separator ∷ joined separator (next ∷ later)

  -- all parts, one after the other
  abbrev pub concat : List (List A) → List A
  concat [] = []
  concat (part ∷ later) = part ++ concat later
