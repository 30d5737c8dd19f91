-- The class of a word (RULES 10.2).
use Rattle.std.specs.Prelude.{ℕ, Option, Some, None}
use Rattle.util.specs.Choice.{choose}
use Rattle.arm64_insn.specs.Adrp.{adrp_of}
use Rattle.arm64_insn.specs.Add.{add_of}
use Rattle.arm64_insn.specs.LoadStore.{load_store_of}
use Rattle.arm64_insn.specs.declared.adrp.Adrp as A
use Rattle.arm64_insn.specs.declared.add.Add as D
use Rattle.arm64_insn.specs.declared.ldst.LoadStore.{LoadStore}
use Rattle.lister_text.specs.declared.class.Class.{Class}
use Rattle.lister_text.specs.declared.class.Class.TheVariants.{Adrp, Add, Load, Store, Other}

-- the class by what each decoder answers
abbrev pub class_by : Option A.Adrp → Option D.Add → Option LoadStore → Class
class_by (Some a) d l = Adrp
class_by None (Some d) l = Add
class_by None None (Some l) = choose l.is_store (Store l.size) (Load l.size)
class_by None None None = Other

-- the class of a word
unfoldable pub class_of : ℕ → Class
class_of w = class_by (adrp_of w) (add_of w) (load_store_of w)
