-- Sessions, each from a new kernel, and what each of their cells gives. The values are those of an independent writing of the language; tools/eval_oracle/worked.py writes this file.
use Rattle.std.specs.Prelude.{◌≡◌, true, false, [], ◌∷◌, codes, pos, negsuc}
use Rattle.wl_expr.specs.Tree.{num}
use Rattle.wl_expr.specs.Words.{applied, natural, whole}
use Rattle.wl_rules.specs.Start.{words}
use Rattle.wl_laws.specs.Cells.{cells, briefs, name, string, call}

-- x = 1; x
-- Clear[x]
-- x
abbrev pub Symbols : Type 0
Symbols =
    cells 1000 (call "CompoundExpression" (call "Set" (name "x" ∷ natural 1 ∷ []) ∷ name "x" ∷ []) ∷ call "Clear" (name "x" ∷ []) ∷ name "x" ∷ [])
    ≡ record { value = natural 1; items = []; steps = 6; names = words (codes "CompoundExpression Set x"); effect = true; depth = 3; turns = 2 }
    ∷ record { value = name "Null"; items = []; steps = 3; names = words (codes "Clear x Null"); effect = true; depth = 2; turns = 2 }
    ∷ record { value = name "x"; items = []; steps = 1; names = words (codes "x"); effect = false; depth = 1; turns = 1 }
    ∷ []

-- {x, x = 1}
-- %
abbrev pub EvaluatedOnce : Type 0
EvaluatedOnce =
    cells 1000 (call "List" (name "x" ∷ call "Set" (name "x" ∷ natural 1 ∷ []) ∷ []) ∷ call "Out" [] ∷ [])
    ≡ record { value = call "List" (name "x" ∷ natural 1 ∷ []); items = []; steps = 5; names = words (codes "List x Set"); effect = true; depth = 3; turns = 1 }
    ∷ record { value = call "List" (natural 1 ∷ natural 1 ∷ []); items = []; steps = 6; names = words (codes "Out List x"); effect = true; depth = 2; turns = 2 }
    ∷ []

-- h[x_] := h[x]; h[1]
abbrev pub GivesItself : Type 0
GivesItself =
    cells 1000 (call "CompoundExpression" (call "SetDelayed" (call "h" (call "Pattern" (name "x" ∷ call "Blank" [] ∷ []) ∷ []) ∷ call "h" (name "x" ∷ []) ∷ []) ∷ call "h" (natural 1 ∷ []) ∷ []) ∷ [])
    ≡ record { value = call "h" (natural 1 ∷ []); items = []; steps = 12; names = words (codes "CompoundExpression SetDelayed h Pattern Blank x Null"); effect = true; depth = 5; turns = 2 }
    ∷ []

-- f[a]
-- a /: f[a] = 7
-- %1
abbrev pub RuleForAnElement : Type 0
RuleForAnElement =
    cells 1000 (call "f" (name "a" ∷ []) ∷ call "TagSet" (name "a" ∷ call "f" (name "a" ∷ []) ∷ natural 7 ∷ []) ∷ call "Out" (natural 1 ∷ []) ∷ [])
    ≡ record { value = call "f" (name "a" ∷ []); items = []; steps = 3; names = words (codes "f a"); effect = false; depth = 2; turns = 1 }
    ∷ record { value = natural 7; items = []; steps = 3; names = words (codes "TagSet a f"); effect = true; depth = 2; turns = 1 }
    ∷ record { value = natural 7; items = []; steps = 6; names = words (codes "Out f a"); effect = true; depth = 2; turns = 2 }
    ∷ []

-- a /: f[a] = 7; f[a]
-- g[x_][y_] := {x, y}; g[1][2]
abbrev pub UpAndSub : Type 0
UpAndSub =
    cells 1000 (call "CompoundExpression" (call "TagSet" (name "a" ∷ call "f" (name "a" ∷ []) ∷ natural 7 ∷ []) ∷ call "f" (name "a" ∷ []) ∷ []) ∷ call "CompoundExpression" (call "SetDelayed" (applied (call "g" (call "Pattern" (name "x" ∷ call "Blank" [] ∷ []) ∷ [])) (call "Pattern" (name "y" ∷ call "Blank" [] ∷ []) ∷ []) ∷ call "List" (name "x" ∷ name "y" ∷ []) ∷ []) ∷ applied (call "g" (natural 1 ∷ [])) (natural 2 ∷ []) ∷ []) ∷ [])
    ≡ record { value = natural 7; items = []; steps = 9; names = words (codes "CompoundExpression TagSet f a"); effect = true; depth = 3; turns = 2 }
    ∷ record { value = call "List" (natural 1 ∷ natural 2 ∷ []); items = []; steps = 19; names = words (codes "CompoundExpression SetDelayed List g Pattern Blank x y Null"); effect = true; depth = 5; turns = 3 }
    ∷ []

-- f[x_] := 1; f[0] = 2; {f[0], f[3]}
-- Clear[f]; f[0]
abbrev pub Specific : Type 0
Specific =
    cells 1000 (call "CompoundExpression" (call "SetDelayed" (call "f" (call "Pattern" (name "x" ∷ call "Blank" [] ∷ []) ∷ []) ∷ natural 1 ∷ []) ∷ call "Set" (call "f" (natural 0 ∷ []) ∷ natural 2 ∷ []) ∷ call "List" (call "f" (natural 0 ∷ []) ∷ call "f" (natural 3 ∷ []) ∷ []) ∷ []) ∷ call "CompoundExpression" (call "Clear" (name "f" ∷ []) ∷ call "f" (natural 0 ∷ []) ∷ []) ∷ [])
    ≡ record { value = call "List" (natural 2 ∷ natural 1 ∷ []); items = []; steps = 20; names = words (codes "CompoundExpression SetDelayed Set List f Pattern Blank x Null"); effect = true; depth = 5; turns = 2 }
    ∷ record { value = call "f" (natural 0 ∷ []); items = []; steps = 7; names = words (codes "CompoundExpression Clear f Null"); effect = true; depth = 3; turns = 2 }
    ∷ []

-- Hold[Sequence[a, b], Unevaluated[c]]
abbrev pub HeldSequence : Type 0
HeldSequence =
    cells 1000 (call "Hold" (call "Sequence" (name "a" ∷ name "b" ∷ []) ∷ call "Unevaluated" (name "c" ∷ []) ∷ []) ∷ [])
    ≡ record { value = call "Hold" (call "Sequence" (name "a" ∷ name "b" ∷ []) ∷ call "Unevaluated" (name "c" ∷ []) ∷ []); items = []; steps = 2; names = words (codes "Hold a b c"); effect = false; depth = 2; turns = 1 }
    ∷ []

-- f[_Symbol] := 5
-- f[Sequence[Unevaluated[x]]]
-- %
abbrev pub FirstForm : Type 0
FirstForm =
    cells 1000 (call "SetDelayed" (call "f" (call "Blank" (name "Symbol" ∷ []) ∷ []) ∷ natural 5 ∷ []) ∷ call "f" (call "Sequence" (call "Unevaluated" (name "x" ∷ []) ∷ []) ∷ []) ∷ call "Out" [] ∷ [])
    ≡ record { value = name "Null"; items = []; steps = 6; names = words (codes "SetDelayed f Blank Symbol Null"); effect = true; depth = 3; turns = 2 }
    ∷ record { value = call "f" (call "Unevaluated" (name "x" ∷ []) ∷ []); items = []; steps = 7; names = words (codes "f Sequence Unevaluated x Blank"); effect = false; depth = 4; turns = 1 }
    ∷ record { value = natural 5; items = []; steps = 7; names = words (codes "Out f Unevaluated x Blank"); effect = true; depth = 3; turns = 2 }
    ∷ []

-- f[b, SetAttributes[f, Orderless]; a]
-- %
abbrev pub LateOrderless : Type 0
LateOrderless =
    cells 1000 (call "f" (name "b" ∷ call "CompoundExpression" (call "SetAttributes" (name "f" ∷ name "Orderless" ∷ []) ∷ name "a" ∷ []) ∷ []) ∷ call "Out" [] ∷ [])
    ≡ record { value = call "f" (name "b" ∷ name "a" ∷ []); items = []; steps = 10; names = words (codes "f b CompoundExpression SetAttributes a Orderless Null"); effect = true; depth = 4; turns = 2 }
    ∷ record { value = call "f" (name "a" ∷ name "b" ∷ []); items = []; steps = 6; names = words (codes "Out f b a"); effect = true; depth = 2; turns = 2 }
    ∷ []

-- f[g[x_, y_:0]] := {x, y}
-- f[b]
-- SetAttributes[g, OneIdentity]
-- %2
abbrev pub OneIdentity : Type 0
OneIdentity =
    cells 1000 (call "SetDelayed" (call "f" (call "g" (call "Pattern" (name "x" ∷ call "Blank" [] ∷ []) ∷ call "Optional" (call "Pattern" (name "y" ∷ call "Blank" [] ∷ []) ∷ natural 0 ∷ []) ∷ []) ∷ []) ∷ call "List" (name "x" ∷ name "y" ∷ []) ∷ []) ∷ call "f" (name "b" ∷ []) ∷ call "SetAttributes" (name "g" ∷ name "OneIdentity" ∷ []) ∷ call "Out" (natural 2 ∷ []) ∷ [])
    ≡ record { value = name "Null"; items = []; steps = 15; names = words (codes "SetDelayed f List g Pattern Blank x Optional y Null"); effect = true; depth = 6; turns = 2 }
    ∷ record { value = call "f" (name "b" ∷ []); items = []; steps = 4; names = words (codes "f b g Pattern Blank Optional"); effect = false; depth = 2; turns = 1 }
    ∷ record { value = name "Null"; items = []; steps = 4; names = words (codes "SetAttributes OneIdentity g Null"); effect = true; depth = 2; turns = 2 }
    ∷ record { value = call "List" (name "b" ∷ natural 0 ∷ []); items = []; steps = 9; names = words (codes "Out f b g Pattern Blank Optional List"); effect = true; depth = 2; turns = 3 }
    ∷ []

-- SetAttributes[h, {Flat, Orderless}]; h[b, h[a]]
-- x*2*x + 3 x^2
abbrev pub FlatAndOrderless : Type 0
FlatAndOrderless =
    cells 1000 (call "CompoundExpression" (call "SetAttributes" (name "h" ∷ call "List" (name "Flat" ∷ name "Orderless" ∷ []) ∷ []) ∷ call "h" (name "b" ∷ call "h" (name "a" ∷ []) ∷ []) ∷ []) ∷ call "Plus" (call "Times" (name "x" ∷ natural 2 ∷ name "x" ∷ []) ∷ call "Times" (natural 3 ∷ call "Power" (name "x" ∷ natural 2 ∷ []) ∷ []) ∷ []) ∷ [])
    ≡ record { value = call "h" (name "a" ∷ name "b" ∷ []); items = []; steps = 15; names = words (codes "CompoundExpression SetAttributes h List Flat Orderless Null b a"); effect = true; depth = 4; turns = 2 }
    ∷ record { value = call "Times" (natural 5 ∷ call "Power" (name "x" ∷ natural 2 ∷ []) ∷ []); items = []; steps = 23; names = words (codes "Plus Times x Power"); effect = false; depth = 5; turns = 2 }
    ∷ []

-- fib[0] = 0; fib[1] = 1; fib[n_] := fib[n] = fib[n - 1] + fib[n - 2]; fib[4]
abbrev pub Fibonacci : Type 0
Fibonacci =
    cells 1000 (call "CompoundExpression" (call "Set" (call "fib" (natural 0 ∷ []) ∷ natural 0 ∷ []) ∷ call "Set" (call "fib" (natural 1 ∷ []) ∷ natural 1 ∷ []) ∷ call "SetDelayed" (call "fib" (call "Pattern" (name "n" ∷ call "Blank" [] ∷ []) ∷ []) ∷ call "Set" (call "fib" (name "n" ∷ []) ∷ call "Plus" (call "fib" (call "Plus" (name "n" ∷ whole (negsuc 0) ∷ []) ∷ []) ∷ call "fib" (call "Plus" (name "n" ∷ whole (negsuc 1) ∷ []) ∷ []) ∷ []) ∷ []) ∷ []) ∷ call "fib" (natural 4 ∷ []) ∷ []) ∷ [])
    ≡ record { value = natural 3; items = []; steps = 68; names = words (codes "CompoundExpression Set SetDelayed fib Pattern Blank n Null Plus"); effect = true; depth = 9; turns = 3 }
    ∷ []

-- f[x_] /; (f[y_] = 2; False) := 0
-- f[1]
-- f[1]
abbrev pub ConditionRedefines : Type 0
ConditionRedefines =
    cells 1000 (call "SetDelayed" (call "Condition" (call "f" (call "Pattern" (name "x" ∷ call "Blank" [] ∷ []) ∷ []) ∷ call "CompoundExpression" (call "Set" (call "f" (call "Pattern" (name "y" ∷ call "Blank" [] ∷ []) ∷ []) ∷ natural 2 ∷ []) ∷ name "False" ∷ []) ∷ []) ∷ natural 0 ∷ []) ∷ call "f" (natural 1 ∷ []) ∷ call "f" (natural 1 ∷ []) ∷ [])
    ≡ record { value = name "Null"; items = []; steps = 7; names = words (codes "SetDelayed Condition f Pattern Blank x Null"); effect = true; depth = 4; turns = 2 }
    ∷ record { value = call "f" (natural 1 ∷ []); items = []; steps = 12; names = words (codes "f Condition Pattern Blank CompoundExpression Set False y"); effect = true; depth = 6; turns = 2 }
    ∷ record { value = natural 2; items = []; steps = 13; names = words (codes "f Condition Pattern Blank CompoundExpression Set False y"); effect = true; depth = 6; turns = 2 }
    ∷ []

-- g[y_] := 0 /; x == 2
-- Block[{x = 1}, w = g[a]]
-- x = 2
-- w
abbrev pub BlockedCondition : Type 0
BlockedCondition =
    cells 1000 (call "SetDelayed" (call "g" (call "Pattern" (name "y" ∷ call "Blank" [] ∷ []) ∷ []) ∷ call "Condition" (natural 0 ∷ call "Equal" (name "x" ∷ natural 2 ∷ []) ∷ []) ∷ []) ∷ call "Block" (call "List" (call "Set" (name "x" ∷ natural 1 ∷ []) ∷ []) ∷ call "Set" (name "w" ∷ call "g" (name "a" ∷ []) ∷ []) ∷ []) ∷ call "Set" (name "x" ∷ natural 2 ∷ []) ∷ name "w" ∷ [])
    ≡ record { value = name "Null"; items = []; steps = 7; names = words (codes "SetDelayed g Condition Pattern Blank y Null"); effect = true; depth = 4; turns = 2 }
    ∷ record { value = call "g" (name "a" ∷ []); items = []; steps = 29; names = words (codes "Block List Set x g a Condition Pattern Blank Equal False w"); effect = true; depth = 5; turns = 2 }
    ∷ record { value = natural 2; items = []; steps = 2; names = words (codes "Set x"); effect = true; depth = 2; turns = 1 }
    ∷ record { value = natural 0; items = []; steps = 11; names = words (codes "w g a Condition Pattern Blank Equal x True"); effect = false; depth = 3; turns = 2 }
    ∷ []

-- g[y_] := 0 /; x == 2
-- g[a]
-- Quiet[{1/0, b}]
-- Check[%, bad]
-- x = 2
-- %2
abbrev pub HiddenCondition : Type 0
HiddenCondition =
    cells 1000 (call "SetDelayed" (call "g" (call "Pattern" (name "y" ∷ call "Blank" [] ∷ []) ∷ []) ∷ call "Condition" (natural 0 ∷ call "Equal" (name "x" ∷ natural 2 ∷ []) ∷ []) ∷ []) ∷ call "g" (name "a" ∷ []) ∷ call "Quiet" (call "List" (call "Times" (natural 1 ∷ call "Power" (natural 0 ∷ whole (negsuc 0) ∷ []) ∷ []) ∷ name "b" ∷ []) ∷ []) ∷ call "Check" (call "Out" [] ∷ name "bad" ∷ []) ∷ call "Set" (name "x" ∷ natural 2 ∷ []) ∷ call "Out" (natural 2 ∷ []) ∷ [])
    ≡ record { value = name "Null"; items = []; steps = 7; names = words (codes "SetDelayed g Condition Pattern Blank y Null"); effect = true; depth = 4; turns = 2 }
    ∷ record { value = call "g" (name "a" ∷ []); items = []; steps = 7; names = words (codes "g a Condition Pattern Blank Equal x"); effect = false; depth = 3; turns = 1 }
    ∷ record { value = call "List" (name "ComplexInfinity" ∷ name "b" ∷ []); items = []; steps = 15; names = words (codes "Quiet List Times Power General ComplexInfinity b"); effect = true; depth = 5; turns = 2 }
    ∷ record { value = call "List" (name "ComplexInfinity" ∷ name "b" ∷ []); items = []; steps = 12; names = words (codes "Check Out bad List ComplexInfinity b"); effect = true; depth = 3; turns = 2 }
    ∷ record { value = natural 2; items = []; steps = 2; names = words (codes "Set x"); effect = true; depth = 2; turns = 1 }
    ∷ record { value = natural 0; items = []; steps = 11; names = words (codes "Out g a Condition Pattern Blank Equal x True"); effect = true; depth = 3; turns = 2 }
    ∷ []

-- While[MatchQ[1, _?((Break[]; True) &)]]
abbrev pub TestBreaks : Type 0
TestBreaks =
    cells 1000 (call "While" (call "MatchQ" (natural 1 ∷ call "PatternTest" (call "Blank" [] ∷ call "Function" (call "CompoundExpression" (call "Break" [] ∷ name "True" ∷ []) ∷ []) ∷ []) ∷ []) ∷ []) ∷ [])
    ≡ record { value = name "Null"; items = []; steps = 18; names = words (codes "While MatchQ PatternTest Blank Function CompoundExpression Break True Null"); effect = false; depth = 5; turns = 2 }
    ∷ []

-- f[x_] = Module[{u = x}, u /; u > 1]
-- f[3]
abbrev pub ConditionMoves : Type 0
ConditionMoves =
    cells 1000 (call "Set" (call "f" (call "Pattern" (name "x" ∷ call "Blank" [] ∷ []) ∷ []) ∷ call "Module" (call "List" (call "Set" (name "u" ∷ name "x" ∷ []) ∷ []) ∷ call "Condition" (name "u" ∷ call "Greater" (name "u" ∷ natural 1 ∷ []) ∷ []) ∷ []) ∷ []) ∷ call "f" (natural 3 ∷ []) ∷ [])
    ≡ record { value = call "Condition" (name "u$1" ∷ call "Greater" (name "u$1" ∷ natural 1 ∷ []) ∷ []); items = []; steps = 13; names = words (codes "Set Module List Condition x u$1 Greater f Pattern Blank"); effect = true; depth = 4; turns = 2 }
    ∷ record { value = call "f" (natural 3 ∷ []); items = []; steps = 8; names = words (codes "f Condition Pattern Blank Greater u$1 x"); effect = false; depth = 3; turns = 2 }
    ∷ []

-- f[x_] := Module[{u = x^2}, u + 1 /; u > 10]
-- f[3]
-- f[4]
-- Module[{w}, w]
abbrev pub Guard : Type 0
Guard =
    cells 1000 (call "SetDelayed" (call "f" (call "Pattern" (name "x" ∷ call "Blank" [] ∷ []) ∷ []) ∷ call "Module" (call "List" (call "Set" (name "u" ∷ call "Power" (name "x" ∷ natural 2 ∷ []) ∷ []) ∷ []) ∷ call "Condition" (call "Plus" (name "u" ∷ natural 1 ∷ []) ∷ call "Greater" (name "u" ∷ natural 10 ∷ []) ∷ []) ∷ []) ∷ []) ∷ call "f" (natural 3 ∷ []) ∷ call "f" (natural 4 ∷ []) ∷ call "Module" (call "List" (name "w" ∷ []) ∷ name "w" ∷ []) ∷ [])
    ≡ record { value = name "Null"; items = []; steps = 7; names = words (codes "SetDelayed f Module Pattern Blank x Null"); effect = true; depth = 4; turns = 2 }
    ∷ record { value = call "f" (natural 3 ∷ []); items = []; steps = 10; names = words (codes "f Pattern Blank Power u$1 Greater False"); effect = true; depth = 3; turns = 2 }
    ∷ record { value = natural 17; items = []; steps = 14; names = words (codes "f Pattern Blank Power u$2 Greater True Plus"); effect = true; depth = 3; turns = 2 }
    ∷ record { value = name "w$3"; items = []; steps = 3; names = words (codes "Module List w w$3"); effect = true; depth = 2; turns = 2 }
    ∷ []

-- g[x__, y__] := With[{n = Length[{x}]}, {n, y} /; n == 2]
-- g[a, b, c]
-- h[x_] := Block[{z = x}, z + 1 /; z > 0]
-- {h[1], h[-1], z}
abbrev pub GuardsWithin : Type 0
GuardsWithin =
    cells 1000 (call "SetDelayed" (call "g" (call "Pattern" (name "x" ∷ call "BlankSequence" [] ∷ []) ∷ call "Pattern" (name "y" ∷ call "BlankSequence" [] ∷ []) ∷ []) ∷ call "With" (call "List" (call "Set" (name "n" ∷ call "Length" (call "List" (name "x" ∷ []) ∷ []) ∷ []) ∷ []) ∷ call "Condition" (call "List" (name "n" ∷ name "y" ∷ []) ∷ call "Equal" (name "n" ∷ natural 2 ∷ []) ∷ []) ∷ []) ∷ []) ∷ call "g" (name "a" ∷ name "b" ∷ name "c" ∷ []) ∷ call "SetDelayed" (call "h" (call "Pattern" (name "x" ∷ call "Blank" [] ∷ []) ∷ []) ∷ call "Block" (call "List" (call "Set" (name "z" ∷ name "x" ∷ []) ∷ []) ∷ call "Condition" (call "Plus" (name "z" ∷ natural 1 ∷ []) ∷ call "Greater" (name "z" ∷ natural 0 ∷ []) ∷ []) ∷ []) ∷ []) ∷ call "List" (call "h" (natural 1 ∷ []) ∷ call "h" (whole (negsuc 0) ∷ []) ∷ name "z" ∷ []) ∷ [])
    ≡ record { value = name "Null"; items = []; steps = 11; names = words (codes "SetDelayed g With Pattern BlankSequence x y Null"); effect = true; depth = 4; turns = 2 }
    ∷ record { value = call "List" (natural 2 ∷ name "c" ∷ []); items = []; steps = 29; names = words (codes "g a b c Pattern BlankSequence Length List Equal False Sequence True"); effect = false; depth = 5; turns = 2 }
    ∷ record { value = name "Null"; items = []; steps = 7; names = words (codes "SetDelayed h Block Pattern Blank x Null"); effect = true; depth = 4; turns = 2 }
    ∷ record { value = call "List" (natural 2 ∷ call "h" (whole (negsuc 0) ∷ []) ∷ name "z" ∷ []); items = []; steps = 23; names = words (codes "List h Pattern Blank z Greater True Plus False"); effect = true; depth = 4; turns = 2 }
    ∷ []

-- f[x_] := With[{u = x}, Block[{u = 2}, u /; True]]; f[5]
abbrev pub GuardedNoMore : Type 0
GuardedNoMore =
    cells 1000 (call "CompoundExpression" (call "SetDelayed" (call "f" (call "Pattern" (name "x" ∷ call "Blank" [] ∷ []) ∷ []) ∷ call "With" (call "List" (call "Set" (name "u" ∷ name "x" ∷ []) ∷ []) ∷ call "Block" (call "List" (call "Set" (name "u" ∷ natural 2 ∷ []) ∷ []) ∷ call "Condition" (name "u" ∷ name "True" ∷ []) ∷ []) ∷ []) ∷ []) ∷ call "f" (natural 5 ∷ []) ∷ []) ∷ [])
    ≡ record { value = call "Block" (call "List" (call "Set" (natural 5 ∷ natural 2 ∷ []) ∷ []) ∷ call "Condition" (natural 5 ∷ name "True" ∷ []) ∷ []); items = []; steps = 14; names = words (codes "CompoundExpression SetDelayed f With Pattern Blank x Null Block List Condition"); effect = true; depth = 5; turns = 3 }
    ∷ []

-- Module[{x = 2}, x + y]
-- Module[{u}, u]
-- Function[x, Function[y, x + y]][y]
abbrev pub Scopes : Type 0
Scopes =
    cells 1000 (call "Module" (call "List" (call "Set" (name "x" ∷ natural 2 ∷ []) ∷ []) ∷ call "Plus" (name "x" ∷ name "y" ∷ []) ∷ []) ∷ call "Module" (call "List" (name "u" ∷ []) ∷ name "u" ∷ []) ∷ applied (call "Function" (name "x" ∷ call "Function" (name "y" ∷ call "Plus" (name "x" ∷ name "y" ∷ []) ∷ []) ∷ [])) (name "y" ∷ []) ∷ [])
    ≡ record { value = call "Plus" (natural 2 ∷ name "y" ∷ []); items = []; steps = 7; names = words (codes "Module List Plus x$1 y"); effect = true; depth = 2; turns = 2 }
    ∷ record { value = name "u$2"; items = []; steps = 3; names = words (codes "Module List u u$2"); effect = true; depth = 2; turns = 2 }
    ∷ record { value = call "Function" (name "y$" ∷ call "Plus" (name "y" ∷ name "y$" ∷ []) ∷ []); items = []; steps = 6; names = words (codes "Function x y y$ Plus"); effect = false; depth = 3; turns = 2 }
    ∷ []

-- x = 7; Block[{x = 1, x = 2}, x]
-- x
-- With[{x = 1, x = 2}, x]
abbrev pub NameTwice : Type 0
NameTwice =
    cells 1000 (call "CompoundExpression" (call "Set" (name "x" ∷ natural 7 ∷ []) ∷ call "Block" (call "List" (call "Set" (name "x" ∷ natural 1 ∷ []) ∷ call "Set" (name "x" ∷ natural 2 ∷ []) ∷ []) ∷ name "x" ∷ []) ∷ []) ∷ name "x" ∷ call "With" (call "List" (call "Set" (name "x" ∷ natural 1 ∷ []) ∷ call "Set" (name "x" ∷ natural 2 ∷ []) ∷ []) ∷ name "x" ∷ []) ∷ [])
    ≡ record { value = natural 2; items = []; steps = 8; names = words (codes "CompoundExpression Set Block x List"); effect = true; depth = 3; turns = 2 }
    ∷ record { value = natural 7; items = []; steps = 2; names = words (codes "x"); effect = false; depth = 1; turns = 1 }
    ∷ record { value = natural 1; items = []; steps = 2; names = words (codes "With List x"); effect = false; depth = 2; turns = 1 }
    ∷ []

-- f[x_] := Block[{x = 1}, x]; f[5]
abbrev pub BlockIsNoScope : Type 0
BlockIsNoScope =
    cells 1000 (call "CompoundExpression" (call "SetDelayed" (call "f" (call "Pattern" (name "x" ∷ call "Blank" [] ∷ []) ∷ []) ∷ call "Block" (call "List" (call "Set" (name "x" ∷ natural 1 ∷ []) ∷ []) ∷ name "x" ∷ []) ∷ []) ∷ call "f" (natural 5 ∷ []) ∷ []) ∷ [])
    ≡ record { value = call "Block" (call "List" (call "Set" (natural 5 ∷ natural 1 ∷ []) ∷ []) ∷ natural 5 ∷ []); items = []; steps = 14; names = words (codes "CompoundExpression SetDelayed f Block Pattern Blank x Null List"); effect = true; depth = 5; turns = 3 }
    ∷ []

-- z = 1; Block[{z = 5}, Abort[]]
-- z
abbrev pub BlockGivesBack : Type 0
BlockGivesBack =
    cells 1000 (call "CompoundExpression" (call "Set" (name "z" ∷ natural 1 ∷ []) ∷ call "Block" (call "List" (call "Set" (name "z" ∷ natural 5 ∷ []) ∷ []) ∷ call "Abort" [] ∷ []) ∷ []) ∷ name "z" ∷ [])
    ≡ record { value = name "$Aborted"; items = []; steps = 8; names = words (codes "CompoundExpression Set Block z List Abort"); effect = true; depth = 3; turns = 2 }
    ∷ record { value = natural 1; items = []; steps = 2; names = words (codes "z"); effect = false; depth = 1; turns = 1 }
    ∷ []

-- Block[{x = 1, Plus = 2, $IterationLimit = 5, y}, {x, $IterationLimit}]
-- x
abbrev pub BlockPassesOver : Type 0
BlockPassesOver =
    cells 1000 (call "Block" (call "List" (call "Set" (name "x" ∷ natural 1 ∷ []) ∷ call "Set" (name "Plus" ∷ natural 2 ∷ []) ∷ call "Set" (name "$IterationLimit" ∷ natural 5 ∷ []) ∷ name "y" ∷ []) ∷ call "List" (name "x" ∷ name "$IterationLimit" ∷ []) ∷ []) ∷ name "x" ∷ [])
    ≡ record { value = call "List" (natural 1 ∷ natural 1000 ∷ []); items = (codes "Set::wrsym: Symbol Plus is Protected." ∷ codes "$IterationLimit::limset: Cannot set $IterationLimit to 5." ∷ []); steps = 10; names = words (codes "Block List x Plus Set General $IterationLimit y"); effect = true; depth = 3; turns = 2 }
    ∷ record { value = name "x"; items = []; steps = 1; names = words (codes "x"); effect = false; depth = 1; turns = 1 }
    ∷ []

-- i = 0; While[True, i++; If[i == 3, Break[]]]; i
abbrev pub BreakOut : Type 0
BreakOut =
    cells 1000 (call "CompoundExpression" (call "Set" (name "i" ∷ natural 0 ∷ []) ∷ call "While" (name "True" ∷ call "CompoundExpression" (call "Increment" (name "i" ∷ []) ∷ call "If" (call "Equal" (name "i" ∷ natural 3 ∷ []) ∷ call "Break" [] ∷ []) ∷ []) ∷ []) ∷ name "i" ∷ []) ∷ [])
    ≡ record { value = natural 3; items = []; steps = 70; names = words (codes "CompoundExpression Set While i True Increment If Plus Equal False Break Null"); effect = true; depth = 7; turns = 3 }
    ∷ []

-- Do[If[i == 2, Protect[i]]; Print[i], {i, 3}]
-- i
abbrev pub ProtectedWithin : Type 0
ProtectedWithin =
    cells 1000 (call "Do" (call "CompoundExpression" (call "If" (call "Equal" (name "i" ∷ natural 2 ∷ []) ∷ call "Protect" (name "i" ∷ []) ∷ []) ∷ call "Print" (name "i" ∷ []) ∷ []) ∷ call "List" (name "i" ∷ natural 3 ∷ []) ∷ []) ∷ name "i" ∷ [])
    ≡ record { value = name "Null"; items = (codes "1" ∷ codes "2" ∷ codes "Set::wrsym: Symbol i is Protected." ∷ codes "2" ∷ []); steps = 57; names = words (codes "Do CompoundExpression List i If Print Equal False Protect Null True Set General"); effect = true; depth = 5; turns = 3 }
    ∷ record { value = name "i"; items = []; steps = 1; names = words (codes "i"); effect = false; depth = 1; turns = 1 }
    ∷ []

-- Table[$RecursionLimit, {$RecursionLimit, 18, 21}]
-- $RecursionLimit
abbrev pub LimitAsIterator : Type 0
LimitAsIterator =
    cells 1000 (call "Table" (name "$RecursionLimit" ∷ call "List" (name "$RecursionLimit" ∷ natural 18 ∷ natural 21 ∷ []) ∷ []) ∷ name "$RecursionLimit" ∷ [])
    ≡ record { value = call "List" (natural 200 ∷ natural 200 ∷ natural 20 ∷ natural 21 ∷ []); items = (codes "$RecursionLimit::limset: Cannot set $RecursionLimit to 18." ∷ codes "$RecursionLimit::limset: Cannot set $RecursionLimit to 19." ∷ []); steps = 16; names = words (codes "Table $RecursionLimit List General"); effect = true; depth = 2; turns = 2 }
    ∷ record { value = natural 200; items = []; steps = 2; names = words (codes "$RecursionLimit"); effect = false; depth = 1; turns = 1 }
    ∷ []

-- Table[x, {Plus, Print[1]}]
abbrev pub NoIterator : Type 0
NoIterator =
    cells 1000 (call "Table" (name "x" ∷ call "List" (name "Plus" ∷ call "Print" (natural 1 ∷ []) ∷ []) ∷ []) ∷ [])
    ≡ record { value = call "Table" (name "x" ∷ call "List" (name "Plus" ∷ call "Print" (natural 1 ∷ []) ∷ []) ∷ []); items = []; steps = 2; names = words (codes "Table x List Plus"); effect = false; depth = 2; turns = 1 }
    ∷ []

-- Table[i + j, {i, 2}, {j, i}]
-- Table[i, {i, 1, 2, 1/2}]
abbrev pub Tables : Type 0
Tables =
    cells 1000 (call "Table" (call "Plus" (name "i" ∷ name "j" ∷ []) ∷ call "List" (name "i" ∷ natural 2 ∷ []) ∷ call "List" (name "j" ∷ name "i" ∷ []) ∷ []) ∷ call "Table" (name "i" ∷ call "List" (name "i" ∷ natural 1 ∷ natural 2 ∷ call "Times" (natural 1 ∷ call "Power" (natural 2 ∷ whole (negsuc 0) ∷ []) ∷ []) ∷ []) ∷ []) ∷ [])
    ≡ record { value = call "List" (call "List" (natural 2 ∷ []) ∷ call "List" (natural 3 ∷ natural 4 ∷ []) ∷ []); items = []; steps = 43; names = words (codes "Table Plus List i j"); effect = true; depth = 4; turns = 2 }
    ∷ record { value = call "List" (natural 1 ∷ num (record { num = pos 3; den = 2 }) ∷ natural 2 ∷ []); items = []; steps = 17; names = words (codes "Table i List Times Power"); effect = true; depth = 4; turns = 2 }
    ∷ []

-- Catch[Do[If[i == 3, Throw[i]], {i, 9}]]
-- Throw[b]
-- Break[]
-- Catch[Throw[1, a], _Symbol]
abbrev pub Caught : Type 0
Caught =
    cells 1000 (call "Catch" (call "Do" (call "If" (call "Equal" (name "i" ∷ natural 3 ∷ []) ∷ call "Throw" (name "i" ∷ []) ∷ []) ∷ call "List" (name "i" ∷ natural 9 ∷ []) ∷ []) ∷ []) ∷ call "Throw" (name "b" ∷ []) ∷ call "Break" [] ∷ call "Catch" (call "Throw" (natural 1 ∷ name "a" ∷ []) ∷ call "Blank" (name "Symbol" ∷ []) ∷ []) ∷ [])
    ≡ record { value = natural 3; items = []; steps = 34; names = words (codes "Catch Do If List i Equal False Throw Null True"); effect = true; depth = 5; turns = 2 }
    ∷ record { value = call "Hold" (call "Throw" (name "b" ∷ []) ∷ []); items = (codes "Throw::nocatch: Uncaught Throw[b] returned to top level." ∷ []); steps = 3; names = words (codes "Throw b"); effect = false; depth = 2; turns = 1 }
    ∷ record { value = call "Hold" (call "Break" [] ∷ []); items = []; steps = 2; names = words (codes "Break"); effect = false; depth = 2; turns = 1 }
    ∷ record { value = natural 1; items = []; steps = 9; names = words (codes "Catch Blank Symbol Throw a"); effect = false; depth = 3; turns = 1 }
    ∷ []

-- Quiet[Throw[1]]
abbrev pub QuietThrow : Type 0
QuietThrow =
    cells 1000 (call "Quiet" (call "Throw" (natural 1 ∷ []) ∷ []) ∷ [])
    ≡ record { value = call "Hold" (call "Throw" (natural 1 ∷ []) ∷ []); items = (codes "Throw::nocatch: Uncaught Throw[1] returned to top level." ∷ []); steps = 4; names = words (codes "Quiet Throw"); effect = false; depth = 3; turns = 1 }
    ∷ []

-- r := r + 1
-- Block[{$RecursionLimit = 20}, r]
-- CheckAbort[Block[{$RecursionLimit = 20}, r], no]
abbrev pub Recursion : Type 0
Recursion =
    cells 1000 (call "SetDelayed" (name "r" ∷ call "Plus" (name "r" ∷ natural 1 ∷ []) ∷ []) ∷ call "Block" (call "List" (call "Set" (name "$RecursionLimit" ∷ natural 20 ∷ []) ∷ []) ∷ name "r" ∷ []) ∷ call "CheckAbort" (call "Block" (call "List" (call "Set" (name "$RecursionLimit" ∷ natural 20 ∷ []) ∷ []) ∷ name "r" ∷ []) ∷ name "no" ∷ []) ∷ [])
    ≡ record { value = name "Null"; items = []; steps = 3; names = words (codes "SetDelayed r Plus Null"); effect = true; depth = 2; turns = 2 }
    ∷ record { value = name "$Aborted"; items = (codes "$RecursionLimit::reclim: Recursion depth of 20 exceeded." ∷ []); steps = 77; names = words (codes "Block List r $RecursionLimit Plus General"); effect = true; depth = 20; turns = 2 }
    ∷ record { value = name "no"; items = (codes "$RecursionLimit::reclim: Recursion depth of 20 exceeded." ∷ []); steps = 76; names = words (codes "CheckAbort Block no List r $RecursionLimit Plus General"); effect = true; depth = 20; turns = 2 }
    ∷ []

-- $IterationLimit = 20
-- k[n_] := k[n + 1]; k[0]
abbrev pub Iteration : Type 0
Iteration =
    cells 1000 (call "Set" (name "$IterationLimit" ∷ natural 20 ∷ []) ∷ call "CompoundExpression" (call "SetDelayed" (call "k" (call "Pattern" (name "n" ∷ call "Blank" [] ∷ []) ∷ []) ∷ call "k" (call "Plus" (name "n" ∷ natural 1 ∷ []) ∷ []) ∷ []) ∷ call "k" (natural 0 ∷ []) ∷ []) ∷ [])
    ≡ record { value = natural 20; items = []; steps = 2; names = words (codes "Set $IterationLimit"); effect = true; depth = 2; turns = 1 }
    ∷ record { value = name "$Aborted"; items = (codes "$IterationLimit::itlim: Iteration limit of 20 exceeded." ∷ []); steps = 102; names = words (codes "CompoundExpression SetDelayed k Pattern Blank n Null Plus $IterationLimit General"); effect = true; depth = 5; turns = 20 }
    ∷ []

-- with 6 steps for a cell:
-- {1, 2}
-- {%, 3}
abbrev pub SixSteps : Type 0
SixSteps =
    cells 6 (call "List" (natural 1 ∷ natural 2 ∷ []) ∷ call "List" (call "Out" [] ∷ natural 3 ∷ []) ∷ [])
    ≡ record { value = call "List" (natural 1 ∷ natural 2 ∷ []); items = []; steps = 2; names = words (codes "List"); effect = false; depth = 2; turns = 1 }
    ∷ record { value = call "List" (call "List" (natural 1 ∷ natural 2 ∷ []) ∷ natural 3 ∷ []); items = []; steps = 6; names = words (codes "List Out"); effect = true; depth = 3; turns = 2 }
    ∷ []

-- with 5 steps for a cell:
-- {1, 2}
-- {%, 3}
abbrev pub FiveSteps : Type 0
FiveSteps =
    cells 5 (call "List" (natural 1 ∷ natural 2 ∷ []) ∷ call "List" (call "Out" [] ∷ natural 3 ∷ []) ∷ [])
    ≡ record { value = call "List" (natural 1 ∷ natural 2 ∷ []); items = []; steps = 2; names = words (codes "List"); effect = false; depth = 2; turns = 1 }
    ∷ record { value = name "$Aborted"; items = []; steps = 5; names = words (codes "List Out"); effect = true; depth = 3; turns = 2 }
    ∷ []

-- with 34 steps for a cell:
-- MatchQ[q[a, a, a, a], q[x___, y___, z___, b]]
abbrev pub EnoughForLeaves : Type 0
EnoughForLeaves =
    cells 34 (call "MatchQ" (call "q" (name "a" ∷ name "a" ∷ name "a" ∷ name "a" ∷ []) ∷ call "q" (call "Pattern" (name "x" ∷ call "BlankNullSequence" [] ∷ []) ∷ call "Pattern" (name "y" ∷ call "BlankNullSequence" [] ∷ []) ∷ call "Pattern" (name "z" ∷ call "BlankNullSequence" [] ∷ []) ∷ name "b" ∷ []) ∷ []) ∷ [])
    ≡ record { value = name "False"; items = []; steps = 34; names = words (codes "MatchQ q a Pattern BlankNullSequence x y z b False"); effect = false; depth = 5; turns = 2 }
    ∷ []

-- with 33 steps for a cell:
-- MatchQ[q[a, a, a, a], q[x___, y___, z___, b]]
abbrev pub OneLeafTooMany : Type 0
OneLeafTooMany =
    cells 33 (call "MatchQ" (call "q" (name "a" ∷ name "a" ∷ name "a" ∷ name "a" ∷ []) ∷ call "q" (call "Pattern" (name "x" ∷ call "BlankNullSequence" [] ∷ []) ∷ call "Pattern" (name "y" ∷ call "BlankNullSequence" [] ∷ []) ∷ call "Pattern" (name "z" ∷ call "BlankNullSequence" [] ∷ []) ∷ name "b" ∷ []) ∷ []) ∷ [])
    ≡ record { value = name "$Aborted"; items = []; steps = 33; names = words (codes "MatchQ q a Pattern BlankNullSequence x y z b"); effect = false; depth = 5; turns = 2 }
    ∷ []

-- f::bad = "Bad `1`.";
-- Message[f::bad, b]
-- Off[f::bad]; Message[f::bad, 2]
abbrev pub Messages : Type 0
Messages =
    briefs (cells 1000 (call "CompoundExpression" (call "Set" (call "MessageName" (name "f" ∷ string "bad" ∷ []) ∷ string "Bad `1`." ∷ []) ∷ name "Null" ∷ []) ∷ call "Message" (call "MessageName" (name "f" ∷ string "bad" ∷ []) ∷ name "b" ∷ []) ∷ call "CompoundExpression" (call "Off" (call "MessageName" (name "f" ∷ string "bad" ∷ []) ∷ []) ∷ call "Message" (call "MessageName" (name "f" ∷ string "bad" ∷ []) ∷ natural 2 ∷ []) ∷ []) ∷ []))
    ≡ record { value = name "Null"; items = 0; steps = 5; names = words (codes "CompoundExpression Set Null MessageName f"); effect = true; depth = 3; turns = 2 }
    ∷ record { value = name "Null"; items = 1; steps = 4; names = words (codes "Message b MessageName f General Null"); effect = true; depth = 2; turns = 2 }
    ∷ record { value = name "Null"; items = 0; steps = 8; names = words (codes "CompoundExpression Off Message MessageName f Null General"); effect = true; depth = 3; turns = 3 }
    ∷ []

-- {1/0, 1/0, 1/0, 1/0}
abbrev pub Stopped : Type 0
Stopped =
    cells 1000 (call "List" (call "Times" (natural 1 ∷ call "Power" (natural 0 ∷ whole (negsuc 0) ∷ []) ∷ []) ∷ call "Times" (natural 1 ∷ call "Power" (natural 0 ∷ whole (negsuc 0) ∷ []) ∷ []) ∷ call "Times" (natural 1 ∷ call "Power" (natural 0 ∷ whole (negsuc 0) ∷ []) ∷ []) ∷ call "Times" (natural 1 ∷ call "Power" (natural 0 ∷ whole (negsuc 0) ∷ []) ∷ []) ∷ []) ∷ [])
    ≡ record { value = call "List" (name "ComplexInfinity" ∷ name "ComplexInfinity" ∷ name "ComplexInfinity" ∷ name "ComplexInfinity" ∷ []); items = (codes "Power::infy: Infinite expression 0^(-1) encountered." ∷ codes "Power::infy: Infinite expression 0^(-1) encountered." ∷ codes "Power::infy: Infinite expression 0^(-1) encountered." ∷ codes "General::stop: Further output of Power::infy will be suppressed during this calculation." ∷ []); steps = 26; names = words (codes "List Times Power General ComplexInfinity"); effect = true; depth = 4; turns = 2 }
    ∷ []

-- Check[1/0, bad]
-- Quiet[Check[1/0, bad]]
-- Quiet[1/0]
abbrev pub Checked : Type 0
Checked =
    cells 1000 (call "Check" (call "Times" (natural 1 ∷ call "Power" (natural 0 ∷ whole (negsuc 0) ∷ []) ∷ []) ∷ name "bad" ∷ []) ∷ call "Quiet" (call "Check" (call "Times" (natural 1 ∷ call "Power" (natural 0 ∷ whole (negsuc 0) ∷ []) ∷ []) ∷ name "bad" ∷ []) ∷ []) ∷ call "Quiet" (call "Times" (natural 1 ∷ call "Power" (natural 0 ∷ whole (negsuc 0) ∷ []) ∷ []) ∷ []) ∷ [])
    ≡ record { value = name "bad"; items = (codes "Power::infy: Infinite expression 0^(-1) encountered." ∷ []); steps = 9; names = words (codes "Check Times bad Power General ComplexInfinity"); effect = true; depth = 4; turns = 2 }
    ∷ record { value = name "bad"; items = []; steps = 12; names = words (codes "Quiet Check Times bad Power General ComplexInfinity"); effect = true; depth = 5; turns = 2 }
    ∷ record { value = name "ComplexInfinity"; items = []; steps = 9; names = words (codes "Quiet Times Power General ComplexInfinity"); effect = true; depth = 4; turns = 2 }
    ∷ []

-- 1 + 2 + {1, 2} + {1, 2, 3}
abbrev pub Uneven : Type 0
Uneven =
    cells 1000 (call "Plus" (natural 1 ∷ natural 2 ∷ call "List" (natural 1 ∷ natural 2 ∷ []) ∷ call "List" (natural 1 ∷ natural 2 ∷ natural 3 ∷ []) ∷ []) ∷ [])
    ≡ record { value = call "Plus" (natural 3 ∷ call "List" (natural 1 ∷ natural 2 ∷ []) ∷ call "List" (natural 1 ∷ natural 2 ∷ natural 3 ∷ []) ∷ []); items = (codes "Thread::tdlen: Objects of unequal length in 1 + 2 + {1, 2} + {1, 2, 3} cannot be combined." ∷ codes "Thread::tdlen: Objects of unequal length in 3 + {1, 2} + {1, 2, 3} cannot be combined." ∷ []); steps = 12; names = words (codes "Plus List Thread General"); effect = true; depth = 3; turns = 2 }
    ∷ []

-- Plus[a, b] = 3
-- f[a, Plus, Times] ^:= 1
-- f[a, b]
-- 3[a] = 1
-- g /: k[m] = 1
-- {p, q} = {1}
abbrev pub Refused : Type 0
Refused =
    cells 1000 (call "Set" (call "Plus" (name "a" ∷ name "b" ∷ []) ∷ natural 3 ∷ []) ∷ call "UpSetDelayed" (call "f" (name "a" ∷ name "Plus" ∷ name "Times" ∷ []) ∷ natural 1 ∷ []) ∷ call "f" (name "a" ∷ name "b" ∷ []) ∷ call "Set" (applied (natural 3) (name "a" ∷ []) ∷ natural 1 ∷ []) ∷ call "TagSet" (name "g" ∷ call "k" (name "m" ∷ []) ∷ natural 1 ∷ []) ∷ call "Set" (call "List" (name "p" ∷ name "q" ∷ []) ∷ call "List" (natural 1 ∷ []) ∷ []) ∷ [])
    ≡ record { value = natural 3; items = (codes "Set::write: Tag Plus in a + b is Protected." ∷ []); steps = 4; names = words (codes "Set Plus a b General"); effect = true; depth = 2; turns = 1 }
    ∷ record { value = name "$Failed"; items = (codes "Set::write: Tag Plus in f[a, Plus, Times] is Protected." ∷ codes "Set::write: Tag Times in f[a, Plus, Times] is Protected." ∷ []); steps = 6; names = words (codes "UpSetDelayed f a Plus Times Set General $Failed"); effect = true; depth = 2; turns = 2 }
    ∷ record { value = call "f" (name "a" ∷ name "b" ∷ []); items = []; steps = 5; names = words (codes "f a b"); effect = false; depth = 2; turns = 1 }
    ∷ record { value = natural 1; items = (codes "Set::setraw: Cannot assign to raw object 3." ∷ []); steps = 3; names = words (codes "Set a General"); effect = true; depth = 2; turns = 1 }
    ∷ record { value = natural 1; items = (codes "TagSet::tagnf: Tag g not found in k[m]." ∷ []); steps = 3; names = words (codes "TagSet g k m General"); effect = true; depth = 2; turns = 1 }
    ∷ record { value = call "List" (natural 1 ∷ []); items = (codes "Set::shape: Lists {p, q} and {1} are not the same shape." ∷ []); steps = 6; names = words (codes "Set List General"); effect = true; depth = 3; turns = 2 }
    ∷ []

-- q[a, b, c] /. q[x__, y__] :> {{x}, {y}}
-- a /. x_. + y_ :> {x, y}
-- {a, {a, b}} //. a -> b
abbrev pub ReplacedFirst : Type 0
ReplacedFirst =
    cells 1000 (call "ReplaceAll" (call "q" (name "a" ∷ name "b" ∷ name "c" ∷ []) ∷ call "RuleDelayed" (call "q" (call "Pattern" (name "x" ∷ call "BlankSequence" [] ∷ []) ∷ call "Pattern" (name "y" ∷ call "BlankSequence" [] ∷ []) ∷ []) ∷ call "List" (call "List" (name "x" ∷ []) ∷ call "List" (name "y" ∷ []) ∷ []) ∷ []) ∷ []) ∷ call "ReplaceAll" (name "a" ∷ call "RuleDelayed" (call "Plus" (call "Optional" (call "Pattern" (name "x" ∷ call "Blank" [] ∷ []) ∷ []) ∷ call "Pattern" (name "y" ∷ call "Blank" [] ∷ []) ∷ []) ∷ call "List" (name "x" ∷ name "y" ∷ []) ∷ []) ∷ []) ∷ call "ReplaceRepeated" (call "List" (name "a" ∷ call "List" (name "a" ∷ name "b" ∷ []) ∷ []) ∷ call "Rule" (name "a" ∷ name "b" ∷ []) ∷ []) ∷ [])
    ≡ record { value = call "List" (call "List" (name "a" ∷ []) ∷ call "List" (name "b" ∷ name "c" ∷ []) ∷ []); items = []; steps = 31; names = words (codes "ReplaceAll q a b c RuleDelayed Pattern BlankSequence x y List Sequence"); effect = false; depth = 6; turns = 2 }
    ∷ record { value = call "List" (natural 0 ∷ name "a" ∷ []); items = []; steps = 21; names = words (codes "ReplaceAll a RuleDelayed Plus Optional Pattern Blank x y List"); effect = false; depth = 7; turns = 2 }
    ∷ record { value = call "List" (name "b" ∷ call "List" (name "b" ∷ name "b" ∷ []) ∷ []); items = []; steps = 50; names = words (codes "ReplaceRepeated List a b Rule"); effect = false; depth = 4; turns = 2 }
    ∷ []

-- Cases[{1, a, 2, f[3]}, x_Integer :> x + 1]
-- DeleteCases[{a, b, a}, a]
-- FreeQ[{a, {b}}, b]
abbrev pub CasesByRule : Type 0
CasesByRule =
    cells 1000 (call "Cases" (call "List" (natural 1 ∷ name "a" ∷ natural 2 ∷ call "f" (natural 3 ∷ []) ∷ []) ∷ call "RuleDelayed" (call "Pattern" (name "x" ∷ call "Blank" (name "Integer" ∷ []) ∷ []) ∷ call "Plus" (name "x" ∷ natural 1 ∷ []) ∷ []) ∷ []) ∷ call "DeleteCases" (call "List" (name "a" ∷ name "b" ∷ name "a" ∷ []) ∷ name "a" ∷ []) ∷ call "FreeQ" (call "List" (name "a" ∷ call "List" (name "b" ∷ []) ∷ []) ∷ name "b" ∷ []) ∷ [])
    ≡ record { value = call "List" (natural 2 ∷ natural 3 ∷ []); items = []; steps = 24; names = words (codes "Cases List a f RuleDelayed Pattern Blank Integer x Plus"); effect = false; depth = 5; turns = 2 }
    ∷ record { value = call "List" (name "b" ∷ []); items = []; steps = 14; names = words (codes "DeleteCases List a b"); effect = false; depth = 3; turns = 2 }
    ∷ record { value = name "False"; items = []; steps = 16; names = words (codes "FreeQ List a b False"); effect = false; depth = 4; turns = 2 }
    ∷ []

abbrev pub WorkedCells : Type 0
WorkedCells =
    Symbols
    × EvaluatedOnce
    × GivesItself
    × RuleForAnElement
    × UpAndSub
    × Specific
    × HeldSequence
    × FirstForm
    × LateOrderless
    × OneIdentity
    × FlatAndOrderless
    × Fibonacci
    × ConditionRedefines
    × BlockedCondition
    × HiddenCondition
    × TestBreaks
    × ConditionMoves
    × Guard
    × GuardsWithin
    × GuardedNoMore
    × Scopes
    × NameTwice
    × BlockIsNoScope
    × BlockGivesBack
    × BlockPassesOver
    × BreakOut
    × ProtectedWithin
    × LimitAsIterator
    × NoIterator
    × Tables
    × Caught
    × QuietThrow
    × Recursion
    × Iteration
    × SixSteps
    × FiveSteps
    × EnoughForLeaves
    × OneLeafTooMany
    × Messages
    × Stopped
    × Checked
    × Uneven
    × Refused
    × ReplacedFirst
    × CasesByRule
