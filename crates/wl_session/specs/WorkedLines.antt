-- Cells from a new session, and the bytes that are written for them. The bytes are those of an independent writing of the language; tools/eval_oracle/worked_lines.py writes this file.
use Rattle.std.specs.Prelude.{◌≡◌, [], ◌∷◌, Some, None, codes, pos, negsuc}
use Rattle.wl_laws.specs.Cells.{call, name, string}
use Rattle.wl_expr.specs.Tree.{num}
use Rattle.wl_expr.specs.Words.{natural, whole}
use Rattle.wl_scan.specs.declared.token.ScanKind.TheVariants.{Real, LongNumber, BadChar, BadEscape, OpenString, OpenComment, Base, Digit}
use Rattle.wl_session.specs.Bytes.{bytes_of}
use Rattle.wl_session.specs.Reading.{refused, read}
use Rattle.wl_session.specs.declared.fault.LineFault.TheVariants.{Syntax}
use Rattle.wl_session.specs.declared.options.Form.TheVariants.{Input, Full}
use Rattle.wl_syntax.specs.declared.fault.SyntaxFault.TheVariants.{Scan, Unclosed, Unexpected}

-- 1.5
-- 1 + 1
-- f[1,
-- x ^ ^ 2
-- 37^^1
-- "a\q"
-- 3
abbrev pub Refusals : Type 0
Refusals =
    bytes_of (record { steps = 1000; total = None; form = Input }) (refused (Syntax (Scan (record { kind = Real; at = 1 }))) ∷ read (call "Plus" (natural 1 ∷ natural 1 ∷ [])) ∷ refused (Syntax Unclosed) ∷ refused (Syntax (Unexpected 5)) ∷ refused (Syntax (Scan (record { kind = Base; at = 1 }))) ∷ refused (Syntax (Scan (record { kind = BadEscape; at = 3 }))) ∷ read (natural 3) ∷ [])
    ≡ codes "Refused: real number at byte 1.\nOut[1]= 2\nRefused: unfinished input.\nRefused: unexpected input at byte 5.\nRefused: base at byte 1.\nRefused: escape at byte 3.\nOut[2]= 3\n"

-- 1;
-- Null
-- x;
-- x = 3;
-- x
-- a; b; Null
-- %5
abbrev pub SilentCells : Type 0
SilentCells =
    bytes_of (record { steps = 1000; total = None; form = Input }) (read (call "CompoundExpression" (natural 1 ∷ name "Null" ∷ [])) ∷ read (name "Null") ∷ read (call "CompoundExpression" (name "x" ∷ name "Null" ∷ [])) ∷ read (call "CompoundExpression" (call "Set" (name "x" ∷ natural 3 ∷ []) ∷ name "Null" ∷ [])) ∷ read (name "x") ∷ read (call "CompoundExpression" (name "a" ∷ name "b" ∷ name "Null" ∷ [])) ∷ read (call "Out" (natural 5 ∷ [])) ∷ [])
    ≡ codes "Out[5]= 3\nOut[7]= 3\n"

-- FullForm[a + b]
-- %
-- {InputForm[a + b]}
-- InputForm[{a, b}]
-- FullForm[a, b]
-- FullForm[FullForm[Null]]
abbrev pub Wrappers : Type 0
Wrappers =
    bytes_of (record { steps = 1000; total = None; form = Input }) (read (call "FullForm" (call "Plus" (name "a" ∷ name "b" ∷ []) ∷ [])) ∷ read (call "Out" []) ∷ read (call "List" (call "InputForm" (call "Plus" (name "a" ∷ name "b" ∷ []) ∷ []) ∷ [])) ∷ read (call "InputForm" (call "List" (name "a" ∷ name "b" ∷ []) ∷ [])) ∷ read (call "FullForm" (name "a" ∷ name "b" ∷ [])) ∷ read (call "FullForm" (call "FullForm" (name "Null" ∷ []) ∷ [])) ∷ [])
    ≡ codes "Out[1]//FullForm= Plus[a, b]\nOut[2]= a + b\nOut[3]= {InputForm[a + b]}\nOut[4]//InputForm= {a, b}\nOut[5]= FullForm[a, b]\nOut[6]//FullForm= FullForm[Null]\n"

-- a + b
-- InputForm[a + b]
-- {1/2, -c}
abbrev pub FullForms : Type 0
FullForms =
    bytes_of (record { steps = 1000; total = None; form = Full }) (read (call "Plus" (name "a" ∷ name "b" ∷ [])) ∷ read (call "InputForm" (call "Plus" (name "a" ∷ name "b" ∷ []) ∷ [])) ∷ read (call "List" (call "Times" (natural 1 ∷ call "Power" (natural 2 ∷ whole (negsuc 0) ∷ []) ∷ []) ∷ call "Times" (whole (negsuc 0) ∷ name "c" ∷ []) ∷ [])) ∷ [])
    ≡ codes "Out[1]= Plus[a, b]\nOut[2]//InputForm= a + b\nOut[3]= List[Rational[1, 2], Times[-1, c]]\n"

-- Throw[b]
-- Throw[1, a]
-- Break[]
-- Abort[]
-- Quiet[Throw[1]]
abbrev pub Ends : Type 0
Ends =
    bytes_of (record { steps = 1000; total = None; form = Input }) (read (call "Throw" (name "b" ∷ [])) ∷ read (call "Throw" (natural 1 ∷ name "a" ∷ [])) ∷ read (call "Break" []) ∷ read (call "Abort" []) ∷ read (call "Quiet" (call "Throw" (natural 1 ∷ []) ∷ [])) ∷ [])
    ≡ codes "Throw::nocatch: Uncaught Throw[b] returned to top level.\nOut[1]= Hold[Throw[b]]\nThrow::nocatch: Uncaught Throw[1, a] returned to top level.\nOut[2]= Hold[Throw[1, a]]\nOut[3]= Hold[Break[]]\nOut[4]= $Aborted\nThrow::nocatch: Uncaught Throw[1] returned to top level.\nOut[5]= Hold[Throw[1]]\n"

-- z = 1; Block[{z = 5}, Abort[]]
-- z
abbrev pub GivenBack : Type 0
GivenBack =
    bytes_of (record { steps = 1000; total = None; form = Input }) (read (call "CompoundExpression" (call "Set" (name "z" ∷ natural 1 ∷ []) ∷ call "Block" (call "List" (call "Set" (name "z" ∷ natural 5 ∷ []) ∷ []) ∷ call "Abort" [] ∷ []) ∷ [])) ∷ read (name "z") ∷ [])
    ≡ codes "Out[1]= $Aborted\nOut[2]= 1\n"

-- f::a = "m `1`";
-- Message[f::a, 5];
-- Off[f::a]; Message[f::a, 5]
-- 1/0
abbrev pub MessagesOff : Type 0
MessagesOff =
    bytes_of (record { steps = 1000; total = None; form = Input }) (read (call "CompoundExpression" (call "Set" (call "MessageName" (name "f" ∷ string "a" ∷ []) ∷ string "m `1`" ∷ []) ∷ name "Null" ∷ [])) ∷ read (call "CompoundExpression" (call "Message" (call "MessageName" (name "f" ∷ string "a" ∷ []) ∷ natural 5 ∷ []) ∷ name "Null" ∷ [])) ∷ read (call "CompoundExpression" (call "Off" (call "MessageName" (name "f" ∷ string "a" ∷ []) ∷ []) ∷ call "Message" (call "MessageName" (name "f" ∷ string "a" ∷ []) ∷ natural 5 ∷ []) ∷ [])) ∷ read (call "Times" (natural 1 ∷ call "Power" (natural 0 ∷ whole (negsuc 0) ∷ []) ∷ [])) ∷ [])
    ≡ codes "f::a: m 5\nPower::infy: Infinite expression 0^(-1) encountered.\nOut[4]= ComplexInfinity\n"

-- $IterationLimit = 20
-- k[n_] := k[n + 1]; k[0]
-- %1
abbrev pub LimitOfTurns : Type 0
LimitOfTurns =
    bytes_of (record { steps = 1000; total = None; form = Input }) (read (call "Set" (name "$IterationLimit" ∷ natural 20 ∷ [])) ∷ read (call "CompoundExpression" (call "SetDelayed" (call "k" (call "Pattern" (name "n" ∷ call "Blank" [] ∷ []) ∷ []) ∷ call "k" (call "Plus" (name "n" ∷ natural 1 ∷ []) ∷ []) ∷ []) ∷ call "k" (natural 0 ∷ []) ∷ [])) ∷ read (call "Out" (natural 1 ∷ [])) ∷ [])
    ≡ codes "Out[1]= 20\n$IterationLimit::itlim: Iteration limit of 20 exceeded.\nOut[2]= $Aborted\nOut[3]= 20\n"

-- {1, 2}
-- {%, 3}
abbrev pub SixSteps : Type 0
SixSteps =
    bytes_of (record { steps = 6; total = None; form = Input }) (read (call "List" (natural 1 ∷ natural 2 ∷ [])) ∷ read (call "List" (call "Out" [] ∷ natural 3 ∷ [])) ∷ [])
    ≡ codes "Out[1]= {1, 2}\nOut[2]= {{1, 2}, 3}\n"

-- {1, 2}
-- {%, 3};
-- {%1, 3}
abbrev pub FiveSteps : Type 0
FiveSteps =
    bytes_of (record { steps = 5; total = None; form = Input }) (read (call "List" (natural 1 ∷ natural 2 ∷ [])) ∷ read (call "CompoundExpression" (call "List" (call "Out" [] ∷ natural 3 ∷ []) ∷ name "Null" ∷ [])) ∷ read (call "List" (call "Out" (natural 1 ∷ []) ∷ natural 3 ∷ [])) ∷ [])
    ≡ codes "Out[1]= {1, 2}\nGeneral::steps: Step budget of 5 exceeded.\nGeneral::steps: Step budget of 5 exceeded.\nOut[3]= $Aborted\n"

-- {1, 2}
-- {%, 3}
-- 5
abbrev pub TotalOfEight : Type 0
TotalOfEight =
    bytes_of (record { steps = 1000; total = Some 8; form = Input }) (read (call "List" (natural 1 ∷ natural 2 ∷ [])) ∷ read (call "List" (call "Out" [] ∷ natural 3 ∷ [])) ∷ read (natural 5) ∷ [])
    ≡ codes "Out[1]= {1, 2}\nOut[2]= {{1, 2}, 3}\nOut[3]= 5\n"

-- {1, 2}
-- {%, 3}
-- 5
abbrev pub TotalOfSeven : Type 0
TotalOfSeven =
    bytes_of (record { steps = 1000; total = Some 7; form = Input }) (read (call "List" (natural 1 ∷ natural 2 ∷ [])) ∷ read (call "List" (call "Out" [] ∷ natural 3 ∷ [])) ∷ read (natural 5) ∷ [])
    ≡ codes "Out[1]= {1, 2}\nGeneral::total: Total step budget of 7 exceeded.\nOut[2]= $Aborted\nOut[3]= 5\n"

-- {1, 2}
abbrev pub TotalAsTheSteps : Type 0
TotalAsTheSteps =
    bytes_of (record { steps = 1; total = Some 1; form = Input }) (read (call "List" (natural 1 ∷ natural 2 ∷ [])) ∷ [])
    ≡ codes "General::steps: Step budget of 1 exceeded.\nOut[1]= $Aborted\n"

abbrev pub WorkedLines : Type 0
WorkedLines =
    Refusals
    × SilentCells
    × Wrappers
    × FullForms
    × Ends
    × GivenBack
    × MessagesOff
    × LimitOfTurns
    × SixSteps
    × FiveSteps
    × TotalOfEight
    × TotalOfSeven
    × TotalAsTheSteps
