-- No turn before the first record; then one more each time.
use Rattle.std.proofs.Common.{[], ◌∷◌, refl, ap, ◌∙◌, subst, ◌<◌}
use Rattle.replay_list.specs.declared.seen.Seen.{Seen}
use Rattle.std.proofs.KnownBytes.{Appends-nil}
use Rattle.replay_list.specs.Replay.{AreTurns, seen_after, table}
use Rattle.replay_list.specs.Seen.{after}
use Rattle.replay_list.proofs.Turns.{one_more}
use Rattle.replay_list.proofs.replay.replay.Goals as goal

pub loop-seen-init : goal.loop-seen-init
unfolding AreTurns seen_after table
loop-seen-init g c = (c.none-seen.ensures.1, ([], refl, c.none-seen.ensures.0, Appends-nil _))

pub loop-seen-preserved : goal.loop-seen-preserved
unfolding AreTurns seen_after table
loop-seen-preserved g c =
    let so_far = c.loop-seen.invariant.1 in
    let turn = c.in_ok-seen.ensures.turn in (
      c.in_ok-seen.ensures.fewer.0,
      (
        turn.0 ∷ so_far.0,
        (_, so_far.1, subst (λ (s : Seen). 0 < s.left) so_far.2 c.loop-seen-test.true, turn.2),
        turn.1 ∙ ap (λ s. after s turn.0.head.what turn.0.holds) so_far.2,
        one_more (g.W.Write.contents c.args.to.now) (g.W.Write.contents c.loop-seen.to) (g.W.Write.contents c.replay_next.new.to) (table so_far.0) turn.0 so_far.2 so_far.3 turn.3,
      ),
    )
