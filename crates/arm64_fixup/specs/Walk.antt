-- The entries one after another: which number turns the list down, and what the list does (RULES 3.5, 5.4, 5.5).
use Rattle.std.specs.Prelude.{ℕ, zero, suc, ◌+◌, ◌*◌, ◌/◌, Bool, false, ◌&&◌, not, List, [], ◌∷◌, ◌++◌, eqb, length, Result, Ok, Option, Some, None, ⊤}
use Rattle.util.specs.Choice.{choose}
use Rattle.util.specs.Word.{le, put}
use Rattle.macho.specs.Refusal.{first}
use Rattle.macho.specs.Reloc.{reloc_size, reloc_at}
use Rattle.macho.specs.Resolved.{resolved_size, resolved_at}
use Rattle.macho.specs.declared.reloc.Reloc.{Reloc}
use Rattle.macho.specs.declared.resolved.Resolved.{Resolved}
use Rattle.arm64_fixup_entry.specs.Check.{subtracts, check_of}
use Rattle.arm64_fixup_entry.specs.Change.{change_of}
use Rattle.arm64_fixup_entry.specs.declared.target.Bases.{Bases}
use Rattle.macho.specs.declared.refusal.Refusal.{Refusal}
use Rattle.macho.specs.declared.report.Report.{Report}
use Rattle.arm64_fixup_entry.specs.declared.change.Write.{Write}
use Rattle.arm64_fixup_entry.specs.declared.change.Write.TheVariants.{Nothing, Word, Pointer}
use Rattle.arm64_fixup_entry.specs.declared.change.Change.{Change}

-- entry i of the lent list
abbrev pub lent_entry : List ℕ → ℕ → Reloc
lent_entry entries i = reloc_at entries (reloc_size * i)

-- its target
abbrev pub lent_target : List ℕ → ℕ → Resolved
lent_target targets i = resolved_at targets (resolved_size * i)

-- how many entries a list has
abbrev pub entry_count : List ℕ → ℕ
entry_count entries = length entries / reloc_size

-- how many targets a list has
abbrev pub target_count : List ℕ → ℕ
target_count targets = length targets / resolved_size

-- how many entries the work of one takes
abbrev pub taken_by : ℕ → ℕ
taken_by ty = choose (subtracts ty) 2 1

-- whether the SUBTRACTOR before it takes entry i
unfoldable pub consumed : List ℕ → ℕ → Bool
consumed entries zero = false
consumed entries (suc i) = subtracts (lent_entry entries i).ty && not (consumed entries i)

-- the check of entry i; a consumed one is not looked at
unfoldable pub check_at : ℕ → Bases → List ℕ → List ℕ → ℕ → Result ⊤ Refusal
check_at len b entries targets i =
    choose (consumed entries i) (Ok tt) (check_of len b (lent_entry entries i) (lent_target targets i) (eqb (i + 1) (entry_count entries)))

-- the first refusal among the first k entries
unfoldable pub check_to : ℕ → Bases → List ℕ → List ℕ → ℕ → Result ⊤ Refusal
check_to len b entries targets zero = Ok tt
check_to len b entries targets (suc i) = first (check_to len b entries targets i) (check_at len b entries targets i)

-- the first refusal among all entries
abbrev pub check_all : ℕ → Bases → List ℕ → List ℕ → Result ⊤ Refusal
check_all len b entries targets = check_to len b entries targets (entry_count entries)

-- the bytes with a write at a place
abbrev pub stored : List ℕ → ℕ → Write → List ℕ
stored s at Nothing = s
stored s at (Word v) = put 4 s at v
stored s at (Pointer v) = put 8 s at v

-- the reports of what is told
abbrev pub reports_of : Option Report → List Report
reports_of None = []
reports_of (Some r) = r ∷ []

-- the section's bytes and the reports so far
pub record Fixed : Type 0 where
  pub section : List ℕ
  pub reports : List Report

-- what an entry i does to the section: the next entry and the word at its place are looked up
abbrev pub change_by : Bases → List ℕ → List ℕ → List ℕ → ℕ → Reloc → Resolved → Change
change_by b entries targets section i e t = change_of b i e t (lent_entry entries (i + 1)) (lent_target targets (i + 1)) (le 4 section e.offset)

-- what entry i of the list does to the section
abbrev pub change_at : Bases → List ℕ → List ℕ → List ℕ → ℕ → Change
change_at b entries targets section i = change_by b entries targets section i (lent_entry entries i) (lent_target targets i)

-- a change at a place
abbrev pub applied : Fixed → ℕ → Change → Fixed
applied f at c = record { section = stored f.section at c.write; reports = f.reports ++ reports_of c.told }

-- entry i after those before it; a consumed one does nothing of its own
unfoldable pub work_at : Bases → List ℕ → List ℕ → Fixed → ℕ → Fixed
work_at b entries targets f i = choose (consumed entries i) f (applied f (lent_entry entries i).offset (change_at b entries targets f.section i))

-- the first k entries, from the lent section on
unfoldable pub fix_to : Bases → List ℕ → List ℕ → List ℕ → ℕ → Fixed
fix_to b entries targets section zero = record { section = section; reports = [] }
fix_to b entries targets section (suc i) = work_at b entries targets (fix_to b entries targets section i) i

-- all entries
abbrev pub fix_all : Bases → List ℕ → List ℕ → List ℕ → Fixed
fix_all b entries targets section = fix_to b entries targets section (entry_count entries)
