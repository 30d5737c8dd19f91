-- A turn's record was read by `next`, and `after` says what it adds.
use Rattle.std.proofs.Common.{refl}
use Rattle.std.proofs.KnownBytes.{Appends-trans}
use Rattle.replay_list.proofs.Turns.{each_ok}
use Rattle.replay_list.proofs.replay.replay_next.Goals as goal

pub returns-clause-turn : goal.returns-clause-turn
returns-clause-turn g c =
    each_ok c.after.result _ _ _ c.after.ensures.written c.after.ensures.seen
    (λ s text p. (
      record { head = c.in_ok-head.head; body = c.next.new.body; holds = c.holds.result },
      p.0,
      (c.in_ok-head.ensures.read, c.in_ok-head.ensures.end, (_, refl, c.holds.ensures)),
      Appends-trans _ _ _ _ _ c.in_ok-head.ensures.title text,
    ))
