-- Where the rule of a text starts, or would start.
use Rattle.std.specs.Prelude.{ℕ, ◌+◌, List, [], ◌++◌, length, Some, None, Option}
use Rattle.rle.specs.Forms.{HeadForm, RuleForm}
use Rattle.rle.specs.Spots.{Spot}

-- what stands after the height and before the rule: `, rule =` and the blanks after it; where no rule is named, the blanks
abbrev pub before_name : (rule : Option (List ℕ)) (tail : List ℕ) → RuleForm rule tail → List ℕ
before_name None tail form = tail
before_name (Some name) tail form = form.0

-- what stands in the line from the rule on: the rule, and the blanks after it
abbrev pub after_name : (rule : Option (List ℕ)) (tail : List ℕ) → RuleForm rule tail → List ℕ
after_name None tail form = []
after_name (Some name) tail form = name ++ form.1

-- the bytes of a heading's line before its rule: x = w, y = h, and what stands after the height
abbrev pub lead : (w h : ℕ) (rule : Option (List ℕ)) (line : List ℕ) → HeadForm w h rule line → List ℕ
lead w h rule line f = f.first ++ (f.width ++ (f.second ++ (f.height ++ before_name rule f.tail f.ruled)))

-- the heading's line comes after the remarks, and the rule after the bytes before it; both count from 1
abbrev pub name_place : (remarks : List (List ℕ)) (w h : ℕ) (rule : Option (List ℕ)) (line : List ℕ) → HeadForm w h rule line → Spot
name_place remarks w h rule line f = record { line = length remarks + 1; column = length (lead w h rule line f) + 1 }
