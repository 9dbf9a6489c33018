use Rattle.desk_net.proofs.tcp.drop_rest.Given as goal

abbrev pub decreases-loop-room : goal.decreases-loop-room
decreases-loop-room g l = l.room
