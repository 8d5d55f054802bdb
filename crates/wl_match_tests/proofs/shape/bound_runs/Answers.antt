use Rattle.wl_match_tests.proofs.shape.bound_runs.Goals as goal

-- src/tests.rt:206:16
pub view-view-requires : goal.view-view-requires
view-view-requires g c = c.next.ensures.searches (c.start-machine.ensures.searches _ _)
