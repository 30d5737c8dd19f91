-- Empty lists succeed: no hints leave every byte and count nothing, with any image and any whole list of entries, empty ones too.
use Rattle.std.specs.Prelude.{Ok}
use mathlib.Core.Path.{◌≡◌, refl}
use mathlib.Core.Bool.{true}
use mathlib.Core.List.{List, []}
use Prim.Native.Nat.{ℕ}
use lib.ListN.{length}
use Rattle.util.specs.Choice.{choose}
use Rattle.macho.specs.Reloc.{reloc_size}
use Rattle.arm64_hint_check.specs.Check.{is_list, check_lists, check_to, check_all}
use Rattle.arm64_hint_run.specs.Run.{zeros, worked, run_of, image_of}

pub no-hints : (image entries : List ℕ) → is_list (length entries) reloc_size ≡ true
    → (run_of image [] entries ≡ Ok zeros) × (image_of image [] entries ≡ image)
unfolding run_of image_of check_all check_lists is_list check_to choose worked
no-hints image entries e = rw e (refl, refl)

pub empty : (image : List ℕ) → (run_of image [] [] ≡ Ok zeros) × (image_of image [] [] ≡ image)
unfolding is_list
empty image = no-hints image [] refl
