-- `client::carry` meets its contract: what its six calls promise of the model (proofs/Carries.antt). Assumes nothing.
use Rattle.client.proofs.Carries.{ok_accepted, carries}
use Rattle.client.proofs.carry.Goals as goal

-- what is known after each of the calls
pub returns : goal.returns
returns c =
    carries _ _ _ _ _ _ _ _
    _ _ c.create-created.ensures
    _ _ _ _ c.plain_message-m.ensures c.add-first_added.ensures c.store-1.given
    _ _ _ _ c.plain_message-n.ensures c.add-second_added.ensures c.store-2-1.given
    _ _ _ _ c.produce-one_made.ensures c.events-1.given
    _ _ _ _ c.produce-two_made.ensures c.events-2-1.given
    _ _ _ _ c.produce-three_made.ensures
    _ _ _ _ _ _
    (ok_accepted _ _ c.is_ok-a.ensures.value)
    (ok_accepted _ _ c.is_ok-b.ensures.value)
    (ok_accepted _ _ c.is_ok-c.ensures.value)
    c.is_fragment-d.ensures
    c.is_fragment-e.ensures
    c.is_fragment-f.ensures
