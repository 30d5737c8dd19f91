-- The class of a load and of a store.
use Rattle.std.specs.Prelude.{Option, Some, None}
use mathlib.Core.Path.{◌≡◌, sym}
use mathlib.Core.Bool.{true, false}
use Rattle.util.proofs.Choice.{choose-true, choose-false}
use Rattle.arm64_insn.specs.declared.adrp.Adrp.{Adrp}
use Rattle.arm64_insn.specs.declared.add.Add.{Add}
use Rattle.arm64_insn.specs.declared.ldst.LoadStore.{LoadStore}
use Rattle.arm64_insn.specs.declared.ldst.LoadStore as L
use Rattle.lister_text.specs.Class.{class_by}
use Rattle.lister_text.specs.declared.class.Class.TheVariants.{Load, Store}

module _ (a : Option Adrp) (d : Option Add) (w : Option LoadStore) (l : L.LoadStore)
    (p : a ≡ None) (q : d ≡ None) (r : w ≡ Some l) where
  pub stores : l.is_store ≡ true → Store l.size ≡ class_by a d w
  stores e = rw (p, q, r) (sym (choose-true l.is_store (Store l.size) (Load l.size) e))

  pub loads : l.is_store ≡ false → Load l.size ≡ class_by a d w
  loads e = rw (p, q, r) (sym (choose-false l.is_store (Store l.size) (Load l.size) e))
