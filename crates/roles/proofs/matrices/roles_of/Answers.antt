-- `roles::roles_of`: the classes of all grants stand at their cells, so the roles of the rows in these classes are
-- those of the sheet.
use Rattle.std.proofs.Common.{refl, sym, ap, ◌∙◌}
use Rattle.spec.specs.Limits.{user_limit}
use Rattle.spec.specs.Cover.{used}
use Rattle.cell_rows.specs.Rows.{row_words}
use Rattle.cell_rows.specs.CellPlaces.{cell_limit}
use Rattle.roles.specs.Laws.CellClass.{no_classes}
use Rattle.roles.specs.Laws.RolesInput.{kernel_below, removed_below, partner_below, classed_rows, roles_shown, roles_only}
use Rattle.roles.proofs.matrices.roles_of.Goals as goal

pub all_classes-requires : goal.all_classes-requires
unfolding user_limit row_words
all_classes-requires c =
    let b = c.requires.belongs in
    record {
      placed_len = (b.each_placed, kernel_below b, no_classes cell_limit refl);
      total_value = (b.placement_held.in_use ∙ ap used (sym b.placement_held.so_far), b.few_classes);
      removed_len_bound = (b.few_removals, b.each_partner, removed_below b, partner_below b);
    }

pub role_rows-requires : goal.role_rows-requires
role_rows-requires c =
    let b = c.requires.belongs in
    (b.few_users, classed_rows b c.all_classes.ensures)

pub returns : goal.returns
returns c =
    record {
      roles_at = λ sheet placement b. roles_shown b c.all_classes.ensures c.role_rows.ensures;
      roles_only = roles_only c.requires.belongs c.all_classes.ensures c.role_rows.ensures;
    }
