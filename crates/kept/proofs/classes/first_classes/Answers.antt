-- `classes::first_classes`: what is copied is the front of the array, so both hold the same placement of as many
-- grants, and of fewer. The planted mistake `every_second_class_copied` makes the array by a call at each place: what
-- it puts in the place of these lines proves that an array has what the calls gave, whatever they are, and fails where
-- its own calls are to give the classes.
use Rattle.std.proofs.lemmas.List.{get_or-take}
use Rattle.spec.specs.Limits.{search_limit}
use Rattle.kept.specs.Laws.ClassesCopied.{copied_placement}
use Rattle.kept.proofs.classes.first_classes.Goals as goal

pub returns : goal.returns
unfolding search_limit
returns c n l =
    copied_placement
    (record {
      same = λ {i} k. rw c.copy_from_slice.ensures.after (get_or-take search_limit c.args.classes.now i 0 k);
    }) n l
