-- What the change of a word can be: a word with no report, a word with a report of reach, no word with a report on it, or nothing.
use Rattle.std.specs.Prelude.{Result, Ok, Err, Option, Some, None}
use Prim.Native.Nat.{ℕ}
use Rattle.util.proofs.Choice.{chosen}
use Rattle.macho.specs.declared.reloc.Reloc.{Reloc}
use Rattle.macho.specs.declared.resolved.Resolved.{Resolved}
use Rattle.arm64_insn.specs.Fix.{offset_with}
use Rattle.arm64_fixup_entry.specs.Change.{silent, reported, reach_report, word_report, branch_unless, dtrace_site_insn, branch, page21, fitted}
use Rattle.arm64_fixup_entry.specs.Change.{pageoff12, got_page21, relaxed, got_pageoff12, word_change}
use Rattle.arm64_fixup_entry.specs.declared.change.Site.{Site}
use Rattle.arm64_fixup_entry.specs.declared.change.Write.TheVariants.{Nothing, Word}
use Rattle.arm64_fixup_entry.specs.declared.change.Change.{Change}

-- what holds of these four holds of the change of any word
module _ (P : Change → Type 0) (s : Site) (none : P (silent Nothing)) (plain : (w : ℕ) → P (silent (Word w)))
    (far : (w kind target : ℕ) → P (reported (Word w) (reach_report s kind target))) (unfit : (kind size : ℕ) → P (reported Nothing (word_report s kind size)))
  where
    of-page : (target word : ℕ) → P (page21 s target word)
    unfolding page21
    of-page target word = chosen P _ _ _ (plain _) (far _ _ _)

    of-fit : (f : Result ℕ ℕ) → P (fitted s f)
    of-fit (Ok w) = plain w
    of-fit (Err n) = unfit _ _

    of-offset : (target word : ℕ) → P (pageoff12 s target word)
    unfolding pageoff12
    of-offset target word = of-fit (offset_with word target)

    of-branch : (e : Reloc) (t : Resolved) (word : ℕ) → P (branch s e t word)
    unfolding branch
    of-branch e t word = chosen P _ _ _ (plain _) (chosen P _ _ _ (plain _) (far _ _ _))

    of-unless : (d : Option ℕ) (c : Change) → P c → P (branch_unless d c)
    of-unless (Some w) c h = plain w
    of-unless None c h = h

    of-got-page : (e : Reloc) (t : Resolved) (word : ℕ) → P (got_page21 s e t word)
    unfolding got_page21
    of-got-page e t word = chosen P _ _ _ (plain _) (of-page _ word)

    of-got-offset : (e : Reloc) (t : Resolved) (word : ℕ) → P (got_pageoff12 s e t word)
    unfolding got_pageoff12 relaxed
    of-got-offset e t word = chosen P _ _ _ (chosen P _ _ _ (plain _) (unfit _ _)) (of-offset _ word)

    pub of_word : (e : Reloc) (t : Resolved) (word : ℕ) → P (word_change s e t word)
    unfolding word_change
    of_word e t word =
        chosen P _ _ _ (of-unless (dtrace_site_insn e t) _ (of-branch e t word))
        (chosen P _ _ _ (of-page _ word)
        (chosen P _ _ _ (of-offset _ word)
        (chosen P _ _ _ (of-got-page e t word) (chosen P _ _ _ (of-page _ word) (chosen P _ _ _ (plain _) (chosen P _ _ _ (of-got-offset e t word) none))))))
