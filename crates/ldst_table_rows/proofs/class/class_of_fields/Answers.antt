-- `class_of_fields` meets its contract: the row by its mnemonic. Assumes nothing.
use mathlib.Core.Path.{◌∙◌}
use Rattle.ldst_table_rows.proofs.ClassLaws.{equals_ldrsw, class_row}
use Rattle.ldst_table_rows.proofs.class.class_of_fields.Goals as goal

pub returns-in-Load : goal.returns-in-Load
returns-in-Load c =
    rw (c.eq.ensures ∙ equals_ldrsw c.in-Load.mnemonic) (class_row _ _ _ c.requires _ _ c.row_of.ensures c.in-Load.is)
