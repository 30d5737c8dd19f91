-- ADRP_ADRP on one word twice is decided to drop it. Computed.
use Rattle.std.specs.Prelude.{Some}
use mathlib.Core.Path.{◌≡◌, refl}
use mathlib.Core.Bool.{true}
use borrow.Author.Tests.{eq-eqb}
use Rattle.util.specs.Choice.{choose}
use Rattle.macho.specs.Types.{MCLOH_AdrpAdrp}
use Rattle.arm64_insn.specs.Page.{adrp_page}
use Rattle.arm64_insn.specs.Adrp.{adrp_of}
use Rattle.arm64_insn.specs.declared.adrp.Adrp.{Adrp}
use Rattle.arm64_hint_terms.specs.Rels.{both_pages}
use Rattle.arm64_hint_terms.specs.Plans.{dropped}
use Rattle.arm64_hint_terms.specs.declared.answer.Insns.{Insns}
use Rattle.arm64_hint_terms.specs.declared.rels.Rels.{Rels}
use Rattle.arm64_hint_adrp.specs.Two.{same_page, adrp_adrp}
use Rattle.arm64_hint_laws.specs.Decide.{by_rule, bars31, decide}

-- two ADRPs of one page into one register
pub drops : (s : Insns) (r : Rels) (a : Adrp) → both_pages r ≡ true → adrp_of s.w0 ≡ Some a → adrp_of s.w1 ≡ Some a → s.p1 ≡ s.p0
    → decide MCLOH_AdrpAdrp s r ≡ dropped
unfolding decide bars31 by_rule adrp_adrp same_page choose
drops s r a pages first second p =
    rw (pages, first, second, p, eq-eqb a.rd a.rd refl, eq-eqb (adrp_page a.imm s.p0) (adrp_page a.imm s.p0) refl)
