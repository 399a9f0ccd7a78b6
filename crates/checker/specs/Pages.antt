-- A page of the program, as the specification sees it.
use Rattle.std.specs.Prelude.{string_bytes}
use Rattle.checker.specs.Reports.{ReportEntry}
use Rattle.checker.specs.declared.report.Page.{Page}

abbrev pub page_told : Page → ReportEntry
page_told page = record { out = string_bytes page.out; err = string_bytes page.err; status = page.status }
