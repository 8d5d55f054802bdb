use Rattle.std.proofs.Common.{◌≡◌, ◌∙◌, Some, None, ap, refl}
use Rattle.wl_session.specs.Answers.{fresh, new_session}
use Rattle.wl_session.specs.Line.{SessionState}
use Rattle.wl_session.specs.SessionView.{state_of}
use Rattle.wl_session.proofs.Broken.{played_broken, played_starved, nothing_begun}
use Rattle.wl_session.proofs.Ending.{played_begun, played_kept, played_few, played_transcript, played_cut_short, played_too_long, too_long_played, read_to_end_played, complete_played, strayed}
use Rattle.wl_session.proofs.top.run.Goals as goal

pub returns-clause-transcript : goal.returns-clause-transcript
returns-clause-transcript g c =
    let played = c.play-played.ensures in
    played_transcript c.play-played.result _ _ _ _ _ _ _ _ _ _ _ _ _ _ _ c.in-Some.ensures (c.in-Ok.ensures.state ∙ ap new_session c.run_options.ensures) c.status_of-status.ensures played.played played.blamed

pub returns-clause-cut_short : goal.returns-clause-cut_short
returns-clause-cut_short g c = played_cut_short c.play-played.result _ _ _ _ _ _ _ _ _ (c.in-Ok.ensures.state ∙ ap new_session c.run_options.ensures) c.status_of-status.ensures c.play-played.ensures.played

pub returns-clause-too_long_only : goal.returns-clause-too_long_only
returns-clause-too_long_only g c = played_too_long c.play-played.result _ _ _ _ _ _ _ _ _ _ c.status_of-status.ensures c.play-played.ensures.played

pub returns-clause-too_long_when : goal.returns-clause-too_long_when
returns-clause-too_long_when g c = λ read. too_long_played c.play-played.result _ _ _ _ _ _ _ _ _ _ _ _ _ _ c.status_of-status.ensures c.play-played.ensures.played c.play-played.ensures.blamed

pub returns-clause-read_to_end_when : goal.returns-clause-read_to_end_when
returns-clause-read_to_end_when g c = λ read. read_to_end_played c.play-played.result _ _ _ _ _ _ _ _ _ _ _ _ _ _ c.status_of-status.ensures c.play-played.ensures.played c.play-played.ensures.blamed

pub returns-clause-stray : goal.returns-clause-stray
returns-clause-stray g c = λ tells. strayed _ _ _ _ _ _ _ _ c.in-Some.ensures (c.play-played.ensures.stray tells)

pub returns-clause-complete : goal.returns-clause-complete
returns-clause-complete g c = λ read. complete_played c.play-played.result _ _ _ _ _ _ _ _ _ _ _ _ _ _ c.status_of-status.ensures c.play-played.ensures.played c.play-played.ensures.blamed

pub returns-clause-broken_off : goal.returns-clause-broken_off
returns-clause-broken_off g c = played_broken c.play-played.result _ _ _ _ _ _ _ _ _ _ _ c.in-Some.ensures (c.in-Ok.ensures.state ∙ ap new_session c.run_options.ensures) c.status_of-status.ensures c.play-played.ensures.played

pub returns-clause-left_off : goal.returns-clause-left_off
returns-clause-left_off g c = played_starved c.play-played.result _ _ _ _ _ _ _ _ _ _ _ c.in-Some.ensures (c.in-Ok.ensures.state ∙ ap new_session c.run_options.ensures) c.status_of-status.ensures c.play-played.ensures.played

pub returns-in_default-new-clause-left_off : goal.returns-in_default-new-clause-left_off
returns-in_default-new-clause-left_off g c = λ five. nothing_begun _ None _ _ _ refl refl

pub returns-in_default-new-2-clause-left_off : goal.returns-in_default-new-2-clause-left_off
returns-in_default-new-2-clause-left_off g c =
    let new : state_of c.in-Ok.session ≡ fresh = c.in-Ok.ensures.state ∙ ap new_session c.run_options.ensures in
    λ five. nothing_begun _ (Some c.in-Ok.session) _ _ _ (ap (λ (s : SessionState). s.state.world.history) new) (ap (λ (s : SessionState). s.counts) new)

pub returns-clause-counted : goal.returns-clause-counted
returns-clause-counted g c = played_begun c.play-played.result _ _ _ _ _ _ _ _ _ _ _ _ c.in-Some.ensures c.status_of-status.ensures c.play-played.ensures.played

pub returns-clause-counts_kept : goal.returns-clause-counts_kept
returns-clause-counts_kept g c = played_kept c.play-played.result _ _ _ _ _ _ _ _ c.play-played.ensures.played

pub returns-clause-taken : goal.returns-clause-taken
returns-clause-taken g c = played_few c.play-played.result _ _ _ _ _ _ _ _ c.play-played.ensures.played
