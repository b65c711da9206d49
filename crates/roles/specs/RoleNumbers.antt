-- Role numbers as arrays: the role of each grant by its number, found through a table with the role of each class.
-- Assumes nothing.
use Rattle.std.specs.Prelude.{ℕ, ◌*◌, List, get_or}
use Rattle.spec.specs.Limits.{grant_limit}

-- the classes that there can be: one for each grant of the kernel, and one for each removal
abbrev pub class_limit : ℕ
class_limit = 2 * grant_limit

-- what the table has for a class with no role yet: no role has this number
abbrev pub no_role : ℕ
no_role = grant_limit

-- the class of grant i, as arrays say it
abbrev pub class_key : List ℕ → List ℕ → ℕ → ℕ
class_key class cells i = get_or class (get_or cells i 0) 0
