use Rattle.std.proofs.Common.{rules, ◌≡◌, ◌↔◌, IfOk, IsNone, sym, subst, ◌∙◌}
use Rattle.std.specs.Process.{exit_status}
use Rattle.wl_session.specs.Words.{asked, words_of}
use Rattle.wl_cmd.proofs.play.play.Goals.{in-Ok, in-Err-Memory, in-Err-NotText}
use Rattle.wl_cmd.proofs.play.play.Goals as goal

pub returns-clause-usage : goal.returns-clause-usage
returns-clause-usage g c =
    elim c.match-words.branch [
      | in-Ok w ↦
          subst (λ r. IfOk r (λ ws. (exit_status c.from.result ≡ 2) ↔ IsNone (asked (words_of ws.items)))) (sym w.in-Ok.is)
          (subst (λ n. (n ≡ 2) ↔ IsNone (asked (words_of w.in-Ok.words.items))) (sym (c.from.ensures ∙ w.status-is))
          (subst (λ xs. (w.run.result.status ≡ 2) ↔ IsNone (asked (words_of xs))) w.as_slice.ensures.value w.run.ensures.usage))
      | in-Err-Memory w ↦ search rules
      | in-Err-NotText w ↦ search rules
    ]
