-- What `why` prints: the pages of reports, one behind the other.
use Rattle.std.specs.Prelude.{◌≡◌, ℕ, List, [], ◌∷◌, ◌++◌, codes, Option, Some, None, ⊤}
use Rattle.sfc_explain.specs.declared.explanation.Explanation.{Explanation}
use Rattle.sfc_plant.specs.Plants.{PlantData}
use Rattle.sfc_replay.specs.sfc_load.Accepted.{IsAccepted}
use Rattle.sfc_why.specs.Pages.{page, IsExplainedBy}
use Rattle.sfc_why.specs.Telling.{ExplainsAll, ExplainsScript}
use Rattle.sfc_why.specs.declared.report.Fault.{Fault}
use Rattle.sfc_why.specs.declared.report.Report.{Report}
use Rattle.sfc_why.specs.declared.script.ScriptTold.{ScriptTold}
use Rattle.sfc_why.specs.declared.script.ScriptTold.TheVariants as script_told
use Rattle.sfc_why_tests.specs.Telling.{ExplainsTests}
use Rattle.sfc_why_tests.specs.declared.tests.TestFault.{TestFault}
use Rattle.sfc_why_tests.specs.declared.tests.TestsTold.{TestsTold}
use Rattle.sfc_why_tests.specs.declared.tests.TestsTold.TheVariants as tests_told
use Rattle.sfc_tools.specs.Told.{Answer, Tells, IsForWant, IsUntold}

-- what is printed where there is no fault
abbrev pub none_text : List ℕ
none_text = codes "no fault\n"

abbrev pub Explained : Fault → Option Explanation → Type 0
Explained fault None = ⊤
Explained fault (Some explanation) = IsExplainedBy fault explanation

-- the page of a report of a text with this name, with what explains it
abbrev pub IsPage : List ℕ → Report → List ℕ → Type 0
IsPage name report text =
    (explanation : Option Explanation) × Explained report.refusal explanation × (text ≡ page name report explanation)

-- the pages of reports, in their order
abbrev pub ArePages : List ℕ → List Report → List ℕ → Type 0
ArePages name [] text = text ≡ []
ArePages name (report ∷ more) text =
    (front : List ℕ) × (rest : List ℕ) × IsPage name report front × ArePages name more rest × (text ≡ front ++ rest)

-- that there is no fault is told where there is no report
abbrev pub if_none : {X : Type 0} → List X → List ℕ
if_none [] = none_text
if_none (x ∷ more) = []

-- ---- charts

-- the pages of all faults of a chart
abbrev pub IsOfChart : List ℕ → List ℕ → Type 0
IsOfChart chart text = (reports : List Report) × ExplainsAll chart reports
    × (pages : List ℕ) × ArePages (codes "chart") reports pages × (text ≡ pages ++ if_none reports)

abbrev pub TellsFaults : List ℕ → Answer → Type 0
TellsFaults chart answer = Tells (IsOfChart chart) IsForWant answer

-- ---- scripts

-- the page of the fault; or those of warnings, and that there is no fault
abbrev pub IsOfTold : ScriptTold → List ℕ → Type 0
IsOfTold (script_told.Fault report) text = IsPage (codes "script") report text
IsOfTold (script_told.NoFault warnings) text =
    (pages : List ℕ) × ArePages (codes "script") warnings.items pages × (text ≡ pages ++ none_text)

-- what is told of a script over the plant that the chart is
abbrev pub IsOfScript : List ℕ → List ℕ → List ℕ → Type 0
IsOfScript chart script text =
    (plant : PlantData) × IsAccepted chart plant × (told : ScriptTold) × ExplainsScript plant script told × IsOfTold told text

abbrev pub TellsFaultsOfScript : List ℕ → List ℕ → Answer → Type 0
TellsFaultsOfScript chart script answer = Tells (IsOfScript chart script) (IsUntold chart) answer

-- ---- tests

-- the page of what is told of a line of tests, without an explanation
abbrev pub page_of_test : TestFault → List ℕ
page_of_test fault = page (codes "tests") fault.report None

-- such pages, in their order
abbrev pub pages_of_tests : List TestFault → List ℕ
pages_of_tests [] = []
pages_of_tests (fault ∷ more) = page_of_test fault ++ pages_of_tests more

-- the page of the first faulty line; or those of names that the chart hasn't, or that there is no fault
abbrev pub text_of_tests : TestsTold → List ℕ
text_of_tests (tests_told.Fault fault) = page_of_test fault
text_of_tests (tests_told.NoFault faults) = pages_of_tests faults.items ++ if_none faults.items

-- what is told of tests over the plant that the chart is
abbrev pub IsOfTests : List ℕ → List ℕ → List ℕ → Type 0
IsOfTests chart tests text =
    (plant : PlantData) × IsAccepted chart plant × (told : TestsTold) × ExplainsTests plant tests told × (text ≡ text_of_tests told)

abbrev pub TellsFaultsOfTests : List ℕ → List ℕ → Answer → Type 0
TellsFaultsOfTests chart tests answer = Tells (IsOfTests chart tests) (IsUntold chart) answer
