use Rattle.std.proofs.Common.{◌≡◌, map, ap, subst, ◌∙◌}
use Rattle.wl_scan.specs.TokenParts.{lexeme_of}
use Rattle.wl_syntax.specs.Parsed.{IsTreeOf}
use Rattle.wl_syntax.specs.Lexer.{grammar_token}
use Rattle.wl_syntax.specs.Polish.{token_of, node_of, polish}
use Rattle.wl_syntax.specs.Tree.{Tree}
use Rattle.wl_syntax.proofs.Outcomes.{tree_read, at_unexpected, unexpected_read}
use Rattle.wl_syntax.proofs.Costs.{small_tree}
use Rattle.wl_syntax.proofs.cell.parse_text.Goals as goal

pub returns-in-Ok-build_expr : goal.returns-in-Ok-build_expr
returns-in-Ok-build_expr c =
    tree_read c.args.text.now c.in_ok-lexemes.lexemes.items (map token_of c.in_ok-tokens.tokens.items) (map node_of c.in-Ok.nodes.items) c.in-Ok-build_expr.expr
    (record {
      scanned_text = (c.utf8.text, c.in_ok-lexemes.ensures.1);
      lexemes = c.in_ok-lexemes.ensures.0;
      grammar = c.in_ok-tokens.ensures ∙ ap (λ ls. map grammar_token (map lexeme_of ls)) c.deref.ensures.value;
    })
    (subst (λ ks. (t : Tree) × IsTreeOf ks t × (map node_of c.in-Ok.nodes.items ≡ polish t)) (ap (map token_of) c.deref-2.ensures.value) c.in-Ok.ensures)
    (λ t p. c.in-Ok-build_expr.ensures t (ap (map node_of) c.deref-in-Ok.ensures.value ∙ p))

pub returns-in-Unexpected : goal.returns-in-Unexpected
returns-in-Unexpected c =
    unexpected_read c.args.text.now c.in_ok-lexemes.lexemes.items (map token_of c.in_ok-tokens.tokens.items) c.in-Unexpected.place c.index.result.now
    (record {
      scanned_text = (c.utf8.text, c.in_ok-lexemes.ensures.1);
      lexemes = c.in_ok-lexemes.ensures.0;
      grammar = c.in_ok-tokens.ensures ∙ ap (λ ls. map grammar_token (map lexeme_of ls)) c.deref.ensures.value;
    })
    (at_unexpected _ _ _ _ c.in-Err.ensures c.in-Unexpected.is (ap (map token_of) c.deref-2.ensures.value))
    c.index.ensures

pub build_expr-requires : goal.build_expr-requires
build_expr-requires c =
    let (t, p, s) = small_tree c.args.text.now c.in_ok-lexemes.lexemes.items (map token_of c.in_ok-tokens.tokens.items) (map node_of c.in-Ok.nodes.items) c.requires.size
    (record {
      scanned_text = (c.utf8.text, c.in_ok-lexemes.ensures.1);
      lexemes = c.in_ok-lexemes.ensures.0;
      grammar = c.in_ok-tokens.ensures ∙ ap (λ ls. map grammar_token (map lexeme_of ls)) c.deref.ensures.value;
    })
    (subst (λ ks. (t : Tree) × IsTreeOf ks t × (map node_of c.in-Ok.nodes.items ≡ polish t)) (ap (map token_of) c.deref-2.ensures.value) c.in-Ok.ensures)
    in
    (t, ap (map node_of) c.deref-in-Ok.ensures.value ∙ p, s)
