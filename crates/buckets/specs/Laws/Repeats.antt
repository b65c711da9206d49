-- Whether a name stands twice, by the places of the names. Assumes nothing.
use Rattle.std.specs.Prelude.{ℕ, ◌≤◌, ◌<◌, ◌≡◌, false, List, [], length}
use Rattle.std.proofs.Common.{arith, sym}
use Rattle.std.proofs.Math.Bool.{So}
use Rattle.spec.specs.Vocabulary.{repeats}
use Rattle.spec.specs.Text.{Bytes, same_name}
use Rattle.lists.specs.SameLaws.{repeats_intro, repeats_nowhere}
use Rattle.names.specs.NamesAt.{name_there, names_at, all_names, Apart}
use Rattle.names.specs.Laws.NamesAt.{names_total, name_of}

module _ (text : Bytes) (places : List ℕ) (count : ℕ) where
  pub equal_names_repeat : (i j : ℕ) → i < j → j < count
      → So (same_name (name_there text places i) (name_there text places j))
      → So (repeats same_name (names_at text places count))
  equal_names_repeat i j h k p =
      repeats_intro same_name [] (names_at text places count) i j h (rw (names_total text places count) k)
      (rw (name_of text places count i (omega arith), name_of text places count j k) p)

-- a loop that found no two equal up to the last name
pub names_apart : (text : Bytes) (places : List ℕ) {n : ℕ} → length places ≤ n → Apart text places n
    → false ≡ repeats same_name (all_names text places)
names_apart text places all apart =
    let names = all_names text places in
    sym (repeats_nowhere same_name [] names (λ i j h k.
    let within : j < length places = rw (names_total text places (length places)) at k in
    rw (name_of text places (length places) i (omega arith), name_of text places (length places) j within)
    (apart i j h (omega arith))))
