-- The whole call: a refusal that leaves everything, or the fixed section with its reports (RULES 3.2, 3.5, 3.9, 3.10, 2.25).
use Rattle.std.specs.Prelude.{ℕ, ◌*◌, ◌/◌, ◌%◌, Bool, ◌||◌, not, List, ◌++◌, eqb, ltb, length, drop, Result, Ok, Err, ⊤}
use Rattle.util.specs.Choice.{choose}
use Rattle.macho.specs.Record.{list_bytes, most_records}
use Rattle.macho.specs.Reloc.{reloc_size}
use Rattle.macho.specs.Resolved.{resolved_size}
use Rattle.macho.specs.Report.{report_size, report_bytes}
use Rattle.macho.specs.declared.refusal.Refusal.{Refusal}
use Rattle.macho.specs.declared.refusal.Refusal.TheVariants.{Lengths, Slots}
use Rattle.arm64_fixup_entry.specs.declared.target.Bases.{Bases}
use Rattle.arm64_fixup.specs.Walk.{check_all, Fixed, fix_all}

-- number 1: no whole entries or targets, more than 2^32 - 1 entries, or not one target an entry
abbrev pub disagree : ℕ → ℕ → Bool
disagree entries targets =
    not (eqb (entries % reloc_size) 0)
    || not (eqb (targets % resolved_size) 0)
    || ltb most_records (entries / reloc_size)
    || not (eqb (entries / reloc_size) (targets / resolved_size))

-- number 2: fewer slots than entries
abbrev pub lacks_slots : ℕ → ℕ → Bool
lacks_slots entries slots = ltb slots (report_size * (entries / reloc_size))

-- the numbers of the lists' lengths, before those of the entries
unfoldable pub check_lists : ℕ → ℕ → ℕ → Result ⊤ Refusal
check_lists entries targets slots =
    choose (disagree entries targets) (Err Lengths) (choose (lacks_slots entries slots) (Err Slots) (Ok tt))

-- the address of the section's first byte, the start of thread-local storage, and the image base
abbrev pub bases_of : ℕ → ℕ → ℕ → Bases
bases_of base tls image = record { base = base; tls_begin = tls; image_base = image }

-- what a call does: nothing, or the fixed section with its reports
pub data Outcome : Type 0 where
  refused : Refusal → Outcome
  fixed : Fixed → Outcome

-- a refusal, or what comes after the checks
abbrev pub after : Result ⊤ Refusal → Outcome → Outcome
after (Err r) o = refused r
after (Ok tt) o = o

-- the lists' lengths first, then the entries, and only then the work
unfoldable pub outcome_of : List ℕ → Bases → List ℕ → List ℕ → List ℕ → Outcome
outcome_of section b entries targets slots =
    after (check_lists (length entries) (length targets) (length slots))
    (after (check_all (length section) b entries targets) (fixed (fix_all b entries targets section)))

-- the answer: how many reports were filled, or the refusal
abbrev pub answer_of : Outcome → Result ℕ Refusal
answer_of (refused r) = Err r
answer_of (fixed f) = Ok (length f.reports)

-- the section at exit
abbrev pub section_after : Outcome → List ℕ → List ℕ
section_after (refused r) section = section
section_after (fixed f) section = f.section

-- the slots with the reports from the front on, and after them the old bytes
abbrev pub filled : Fixed → List ℕ → List ℕ
filled f slots = list_bytes report_bytes f.reports ++ drop (report_size * length f.reports) slots

-- the slots at exit
abbrev pub slots_after : Outcome → List ℕ → List ℕ
slots_after (refused r) slots = slots
slots_after (fixed f) slots = filled f slots

-- what a call answers to what was lent
abbrev pub answer_to : List ℕ → ℕ → ℕ → ℕ → List ℕ → List ℕ → List ℕ → Result ℕ Refusal
answer_to section base tls image entries targets slots = answer_of (outcome_of section (bases_of base tls image) entries targets slots)

-- the section after it
abbrev pub section_to : List ℕ → ℕ → ℕ → ℕ → List ℕ → List ℕ → List ℕ → List ℕ
section_to section base tls image entries targets slots = section_after (outcome_of section (bases_of base tls image) entries targets slots) section

-- the slots after it
abbrev pub slots_to : List ℕ → ℕ → ℕ → ℕ → List ℕ → List ℕ → List ℕ → List ℕ
slots_to section base tls image entries targets slots = slots_after (outcome_of section (bases_of base tls image) entries targets slots) slots
