-- The table of classes: by the theorems of arm64_ldst_class, the contracts of the lookup and the generator, and computed lists.
use mathlib.Core.Path.{refl}
use Rattle.util.specs.Choice.{choose}
use Rattle.arm64_insn.specs.LoadStoreTable.{row_of}
use Rattle.arm64_ldst_class.specs.Row.{class_of_index}
use Rattle.arm64_ldst_class.specs.Rust.{class_in_rust}
use Rattle.arm64_ldst_class.proofs.Back.{moves-back, neither-back, entry-back}
use Rattle.arm64_ldst_class.proofs.High.{class-high, class_back}
use Rattle.arm64_ldst_class.proofs.Manual.{class-manual, ldrsw-at, only-in-rust, as-in-rust}
use Rattle.arm64_ldst_table.proofs.lookup.Met as Lookup
use Rattle.ldst_table_rows.specs.Names.{name_at}
use Rattle.ldst_table_text.specs.Text.{class_text, comment_of, entry_line}
use Rattle.ldst_table_text.proofs.text.Met as Text
use Rattle.claims.specs.Classes.{Classes}

pub classes : Classes
unfolding choose row_of class_of_index class_in_rust name_at class_text comment_of entry_line
classes =
    record {
      lookup = λ M. Lookup.met;
      by_index = class-high;
      entries = refl;
      moves-back = moves-back;
      none-back = neither-back;
      back = class_back;
      entry-back = entry-back;
      manual = class-manual;
      only-in-rust = only-in-rust;
      rust-entries = refl;
      as-in-rust = as-in-rust;
      ldrsw-at = ldrsw-at;
      text = λ M. Text.met;
      rows = refl;
      other-line = refl;
    }
