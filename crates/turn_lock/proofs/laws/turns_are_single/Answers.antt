use Rattle.turn_lock.proofs.StateLaws.{all_distinct, one_is_out, one_list, tickets_counted}
use Rattle.turn_lock.proofs.laws.turns_are_single.Goals as goal

pub returns : goal.returns
returns g c =
    let list_of = g.T.Listed.list in
    let bears = g.T.Listed.bears in
    record { single = one_is_out list_of bears; tickets = tickets_counted list_of bears; list = one_list list_of bears; apart = all_distinct list_of bears }
