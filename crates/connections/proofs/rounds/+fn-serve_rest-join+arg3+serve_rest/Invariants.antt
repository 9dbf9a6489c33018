use Rattle.connections.proofs.rounds.+fn-serve_rest-join+arg3+serve_rest.Given as goal

abbrev pub decreases-join+arg3 : goal.decreases-join+arg3
decreases-join+arg3 g l = l.rest

abbrev pub decreases-serve_rest : goal.decreases-serve_rest
decreases-serve_rest g l = l.left
