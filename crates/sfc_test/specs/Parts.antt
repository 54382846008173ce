-- What stands between the parts of a text (our choice; the Test Anything Protocol, version 12; the XML of JUnit).
use Rattle.std.specs.Prelude.{ℕ, List, codes}
use Rattle.sfc_test.specs.declared.part.Part.{Part}
use Rattle.sfc_test.specs.declared.part.Part.TheVariants as parts

unfoldable pub part_text : Part → List ℕ
part_text parts.LineEnd = codes "\n"
part_text parts.Passed = codes "ok "
part_text parts.Failed = codes "FAILED "
part_text parts.Indent = codes "  "
part_text parts.PassedCount = codes " passed, "
part_text parts.FailedCount = codes " failed\n"
part_text parts.TapPassed = codes "ok "
part_text parts.TapFailed = codes "not ok "
part_text parts.TapDash = codes " - "
part_text parts.TapComment = codes "# "
part_text parts.TapPlan = codes "1.."
part_text parts.CaseBegins = codes "<testcase classname=\""
part_text parts.TitleBegins = codes "\" name=\""
part_text parts.TitleEnds = codes "\""
part_text parts.CaseEnds = codes "/>\n"
part_text parts.FailureBegins = codes ">\n<failure>"
part_text parts.FailureEnds = codes "</failure>\n</testcase>\n"
part_text parts.DocumentBegins = codes "<?xml version=\"1.0\" encoding=\"UTF-8\"?>\n<testsuites>\n<testsuite name=\""
part_text parts.TestsBegin = codes "\" tests=\""
part_text parts.FailuresBegin = codes "\" failures=\""
part_text parts.CasesBegin = codes "\" errors=\"0\">\n"
part_text parts.DocumentEnds = codes "</testsuite>\n</testsuites>\n"
part_text parts.Ampersand = codes "&amp;"
part_text parts.Less = codes "&lt;"
part_text parts.Greater = codes "&gt;"
part_text parts.Quote = codes "&quot;"
