-- Strings, and the text and boxes of expressions. Reference pages of these.
use Rattle.std.specs.Prelude.{ℕ, true, false, List, [], ◌∷◌, length, map, chars, encode_utf8}
use Rattle.std.specs.List.{flat_map, list_all}
use Rattle.wl_expr.specs.Applied.{Applied, unchanged, gives}
use Rattle.wl_expr.specs.Tree.{Tree, text}
use Rattle.wl_expr.specs.Words.{Bytes, is_text, list_of, natural}
use Rattle.wl_form.specs.Boxes.{boxes}
use Rattle.wl_form.specs.Texts.{input_text}

-- the bytes of a string
abbrev pub bytes_of : Tree → Bytes
bytes_of (text s) = s
bytes_of t = []

-- `StringJoin` of strings
abbrev pub string_join_row : List Tree → Applied
string_join_row es = elim (list_all is_text es) [ true ↦ gives (text (flat_map bytes_of es)) | false ↦ unchanged ]

-- `StringLength[s]` in characters
abbrev pub string_length_row : List Tree → Applied
string_length_row (text s ∷ []) = gives (natural (length (chars s)))
string_length_row es = unchanged

-- each character as a string
abbrev pub character_texts : List ℕ → List Tree
character_texts cs = map (λ c. text (encode_utf8 c)) cs

abbrev pub characters_row : List Tree → Applied
characters_row (text s ∷ []) = gives (list_of (character_texts (chars s)))
characters_row es = unchanged

-- `ToString[e]`: its InputForm, a string as it is
abbrev pub string_of : Tree → Bytes
string_of (text s) = s
string_of e = input_text e

abbrev pub to_string_row : List Tree → Applied
to_string_row (e ∷ []) = gives (text (string_of e))
to_string_row es = unchanged

-- `MakeBoxes[e]`
abbrev pub make_boxes_row : List Tree → Applied
make_boxes_row (e ∷ []) = gives (boxes e)
make_boxes_row es = unchanged
