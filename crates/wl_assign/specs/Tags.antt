-- The symbols that may get an up rule: the tags of a core (the manual's tutorial on definitions associated with symbols).
use Rattle.std.specs.Prelude.{List, [], Option, Some, None, filter_map}
use Rattle.wl_expr.specs.Same.{first_names}
use Rattle.wl_expr.specs.Special.{Special, blank, blank_sequence, blank_null_sequence, named, pattern_test, condition, hold_pattern, special_node}
use Rattle.wl_expr.specs.Tree.{Tree, Trees, num, text, symbol, node, none, more, to_list}
use Rattle.wl_expr.specs.Words.{Name, name_of, elements}

abbrev pub first_name : Trees → Option Name
first_name none = None
first_name (more t ts) = name_of t

-- `HoldPattern`, `Condition`, `PatternTest` and `Pattern` have the tag of what they stand around; a blank has that of its head;
-- another node that of its own
abbrev mutual
  pub tag : Tree → Option Name
  tag (num n) = None
  tag (text s) = None
  tag (symbol x) = Some x
  tag (node h ts) = node_tag (special_node h (to_list ts)) h ts

  pub node_tag : Special → Tree → Trees → Option Name
  node_tag hold_pattern h (more t ts) = tag t
  node_tag condition h (more t ts) = tag t
  node_tag pattern_test h (more t ts) = tag t
  node_tag named h (more x (more t ts)) = tag t
  node_tag blank h ts = first_name ts
  node_tag blank_sequence h ts = first_name ts
  node_tag blank_null_sequence h ts = first_name ts
  node_tag _ h ts = name_of h

-- the distinct tags of a core, in the order of its elements
abbrev pub tags : Tree → List Name
tags c = first_names [] (filter_map tag (elements c))
