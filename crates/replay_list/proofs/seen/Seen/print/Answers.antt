-- `Seen::print`: the text that the call writes is that of the definition, for either value of the flag.
use Rattle.std.proofs.Common.{◌≡◌, ℕ, ◌∷◌, [], ◌++◌, Bool, true, false, refl, ◌∙◌, subst, OnOk, codes}
use Rattle.std.specs.Fmt.{decimal}
use Rattle.std.specs.Io.KnownBytes.{Appends}
use mathlib.Core.Bool.{not}
use mir.Val.{bool_byte}
use Rattle.util.specs.Choice.{choose}
use Rattle.replay_list.proofs.seen.Seen.print.Goals as goal

differences : (b : Bool) → bool_byte (not b) ≡ choose b 0 1
unfolding choose
differences true = refl
differences false = refl

pub returns : goal.returns
returns g c =
    let P : ℕ → Type 0 =
    λ n. OnOk c.writeln.result (Appends (g.W.Write.contents c.args.to.now) (g.W.Write.contents c.writeln.new.self) (decimal c.args.self.held ++ (codes " answers, " ++ (decimal n ++ (codes " differences" ++ (10 ∷ []))))))
    in
    subst P (c.from-differences.ensures ∙ differences c.args.self.is_whole) c.writeln.ensures.bytes
