-- Metrics that may rise and fall.
use Rattle.std.specs.Prelude.{ℕ, List, [], ◌++◌, codes, Option, Some, None}
use Rattle.std.specs.Fmt.{decimal}

-- the label of a group: empty where the group is not known, which is as none
abbrev pub group_word : Option ℕ → List ℕ
group_word None = []
group_word (Some group) = decimal group

-- what stands before the numbers of a metric: its name, and what it is
unfoldable pub gauge_head : List ℕ → List ℕ → List ℕ
gauge_head name help =
    codes "# HELP " ++ (name ++ (codes " " ++ (help ++ (codes "\n# TYPE " ++ (name
    ++ codes " gauge\n")))))

-- a number of it, of a group
unfoldable pub sample : List ℕ → Option ℕ → ℕ → List ℕ
sample name group n =
    name ++ (codes "{group=\"" ++ (group_word group ++ (codes "\"} " ++ (decimal n
    ++ codes "\n"))))

-- a number of it that is of one of several things
unfoldable pub sample_of : List ℕ → Option ℕ → List ℕ → List ℕ → ℕ → List ℕ
sample_of name group label word n =
    name ++ (codes "{group=\"" ++ (group_word group ++ (codes "\"," ++ (label ++ (codes "=\""
    ++ (word ++ (codes "\"} " ++ (decimal n ++ codes "\n"))))))))

-- a metric with one number
abbrev pub gauge : List ℕ → List ℕ → Option ℕ → ℕ → List ℕ
gauge name help group n = gauge_head name help ++ sample name group n
