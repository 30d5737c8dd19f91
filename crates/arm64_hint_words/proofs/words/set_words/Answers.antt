-- `set_words`: after each store what fits still fits, and the three stores are those of the places in their order.
use Rattle.std.specs.Prelude.{Option}
use Rattle.std.proofs.Common.{ℕ, List, sym, ap, ◌∙◌, subst, arith}
use Rattle.arm64_hint_words.specs.Place.{Fits, set_in}
use Rattle.arm64_hint_words.specs.Held.{holding}
use Rattle.arm64_hint_words.specs.declared.hint.Hint.{Hint}
use Rattle.arm64_hint_words.proofs.First.{fits_each}
use Rattle.arm64_hint_words.proofs.Stores.{still-fits, stores}
use Rattle.arm64_hint_words.proofs.words.set_words.Goals as goal

-- a hint with a new word at one of its places
abbrev stored : Hint → ℕ → Option ℕ → Hint
stored h i w = holding h (set_in h.buf.now h.insns h.n i w)

pub set-requires-2 : goal.set-requires-2
set-requires-2 c =
    subst (λ (h : Hint). Fits h.buf.now h.insns h.n 1) (sym c.set.ensures)
    (still-fits c.args.section.now c.args.insns c.args.n 0 c.args.w0 1 (fits_each c.args.section.now c.args.insns c.args.n (omega arith) c.requires 1 (omega arith)))

pub set-requires-3 : goal.set-requires-3
set-requires-3 c =
    let once : List ℕ = set_in c.args.section.now c.args.insns c.args.n 0 c.args.w0 in
    let fits = fits_each c.args.section.now c.args.insns c.args.n (omega arith) c.requires 2 (omega arith) in
    subst (λ (h : Hint). Fits h.buf.now h.insns h.n 2) (sym (c.set-2.ensures ∙ ap (λ (h : Hint). stored h 1 c.args.w1) c.set.ensures))
    (still-fits once c.args.insns c.args.n 1 c.args.w1 2 (still-fits c.args.section.now c.args.insns c.args.n 0 c.args.w0 2 fits))

pub returns : goal.returns
returns c =
    let twice = c.set-2.ensures ∙ ap (λ (h : Hint). stored h 1 c.args.w1) c.set.ensures in
    let thrice = c.set-3.ensures ∙ ap (λ (h : Hint). stored h 2 c.args.w2) twice in
    c.section-1.given.1.1 (sym (ap (λ (h : Hint). h.buf.ghost_name) thrice))
    ∙ ap (λ (h : Hint). h.buf.now) thrice
    ∙ stores c.args.section.now c.args.n c.args.w0 c.args.w1 c.args.w2 c.args.insns (omega arith)
