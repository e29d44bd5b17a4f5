-- Lines without where they lie in memory, and the words with which lines begin.
use Rattle.std.specs.Prelude.{ℕ, List, map, codes}
use Rattle.cert_text.specs.Lines.{Line, Head, HeadTwo, Counts, GoalCost, Plan, Table, Cuts, Set, Steps, End, Verdict, Wcd, Prefix, Live, Design, Remove, Named, Tree, Branch, Leaf, LeafUse, Done}
use Rattle.cert_text.specs.declared.line.CertLine.{CertLine}
use Rattle.cert_text.specs.declared.line.CertLine.TheVariants as line
use Rattle.cert_text.specs.declared.keyword.Keyword.{Keyword}
use Rattle.cert_text.specs.declared.keyword.Keyword.TheVariants as key

abbrev pub plain : CertLine → Line
plain line.Head = Head
plain line.HeadTwo = HeadTwo
plain (line.Counts atoms actions goals observations budget) = Counts atoms actions goals observations budget
plain (line.GoalCost goal cost) = GoalCost goal cost
plain (line.Plan actions) = Plan actions.items
plain line.Table = Table
plain (line.Cuts bound state) = Cuts bound state.items
plain (line.Set atoms) = Set atoms.items
plain (line.Steps bound state) = Steps bound state.items
plain line.End = End
plain (line.Verdict goal recognised) = Verdict goal recognised
plain (line.Wcd pair) = Wcd pair
plain (line.Prefix actions) = Prefix actions.items
plain (line.Live depth goals state) = Live depth goals.items state.items
plain (line.Design count wcd) = Design count wcd
plain (line.Remove actions) = Remove actions.items
plain (line.Named number goal removed) = Named number goal removed.items
plain (line.Tree members least) = Tree members least
plain (line.Branch first second) = Branch first second
plain (line.Leaf goal) = Leaf goal
plain (line.LeafUse goal table) = LeafUse goal table
plain line.Done = Done

abbrev pub plain_lines : List CertLine → List Line
plain_lines lines = map plain lines

abbrev pub keyword_text : Keyword → List ℕ
keyword_text key.Grd = codes "grd"
keyword_text key.Task = codes "task"
keyword_text key.Goal = codes "goal"
keyword_text key.Plan = codes "plan"
keyword_text key.Table = codes "table"
keyword_text key.Cuts = codes "cuts"
keyword_text key.Set = codes "set"
keyword_text key.Steps = codes "steps"
keyword_text key.End = codes "end"
keyword_text key.Verdict = codes "verdict"
keyword_text key.Wcd = codes "wcd"
keyword_text key.Prefix = codes "prefix"
keyword_text key.Live = codes "live"
keyword_text key.Design = codes "design"
keyword_text key.Remove = codes "remove"
keyword_text key.Named = codes "named"
keyword_text key.Tree = codes "tree"
keyword_text key.Branch = codes "branch"
keyword_text key.Leaf = codes "leaf"
keyword_text key.Done = codes "done"
