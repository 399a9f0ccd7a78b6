-- The officer's console and its policy. Their texts are built from the constants of this crate; the definitions specify how these are put together.
use Rattle.std.specs.Prelude.{List, ◌++◌, codes, ℕ}
use Rattle.console_page.specs.Policies.{policy_of}
use Rattle.console_page.specs.declared.markup.TheConstants.{BODY, HEAD, TAIL}
use Rattle.console_page.specs.declared.script.adjudication.TheConstants.{ADJUDICATION}
use Rattle.console_page.specs.declared.script.advice.TheConstants.{ADVICE}
use Rattle.console_page.specs.declared.script.basics.TheConstants.{BASICS}
use Rattle.console_page.specs.declared.script.batches.TheConstants.{BATCHES}
use Rattle.console_page.specs.declared.script.chart.TheConstants.{CHART}
use Rattle.console_page.specs.declared.script.counting.TheConstants.{COUNTING}
use Rattle.console_page.specs.declared.script.declaring.TheConstants.{DECLARING}
use Rattle.console_page.specs.declared.script.dialogs.TheConstants.{DIALOGS}
use Rattle.console_page.specs.declared.script.events.TheConstants.{EVENTS}
use Rattle.console_page.specs.declared.script.frame.TheConstants.{FRAME}
use Rattle.console_page.specs.declared.script.giving.TheConstants.{GIVING}
use Rattle.console_page.specs.declared.script.journal.TheConstants.{JOURNAL}
use Rattle.console_page.specs.declared.script.keyings.TheConstants.{KEYINGS}
use Rattle.console_page.specs.declared.script.mending.TheConstants.{MENDING}
use Rattle.console_page.specs.declared.script.nominations.TheConstants.{NOMINATIONS}
use Rattle.console_page.specs.declared.script.overview.TheConstants.{OVERVIEW}
use Rattle.console_page.specs.declared.script.papers.TheConstants.{PAPERS}
use Rattle.console_page.specs.declared.script.pending.TheConstants.{PENDING}
use Rattle.console_page.specs.declared.script.publishing.TheConstants.{PUBLISHING}
use Rattle.console_page.specs.declared.script.requests.TheConstants.{REQUESTS}
use Rattle.console_page.specs.declared.script.sealing.TheConstants.{SEALING}
use Rattle.console_page.specs.declared.script.switching.TheConstants.{SWITCHING}
use Rattle.console_page.specs.declared.script.verdicts.TheConstants.{VERDICTS}
use Rattle.console_page.specs.declared.script.words.TheConstants.{WORDS}
use Rattle.console_page.specs.declared.stylesheet.TheConstants.{STYLE}

-- the script of the page: the declarations of its parts, and the last part, which starts it
unfoldable pub script : List ℕ
script =
    BASICS.now ++ (ADVICE.now ++ (WORDS.now ++ (REQUESTS.now ++ (PAPERS.now ++ (PENDING.now ++ (DIALOGS.now ++ (FRAME.now ++ (OVERVIEW.now ++ (
    NOMINATIONS.now ++ (GIVING.now ++ (BATCHES.now ++ (KEYINGS.now ++ (ADJUDICATION.now ++ (VERDICTS.now ++ (SEALING.now ++ (
    CHART.now ++ (COUNTING.now ++ (DECLARING.now ++ (MENDING.now ++ (SWITCHING.now ++ (PUBLISHING.now ++ (JOURNAL.now ++ EVENTS.now))))))))))))))))))))))

-- the style of the page
abbrev pub style : List ℕ
style = STYLE.now

-- a page with one style and one script: the markup around the two
unfoldable pub page_of : List ℕ → List ℕ → List ℕ
page_of its_style its_script =
    HEAD.now
    ++ (codes "<style>" ++ (its_style ++ (codes "</style>"
    ++ (BODY.now
    ++ (codes "<script>" ++ (its_script ++ (codes "</script>"
    ++ TAIL.now)))))))

-- the page; its text is always the same
abbrev pub page_text : List ℕ
page_text = page_of style script

-- the policy of the page: it allows a browser to use the style and the script of the page
abbrev pub policy_text : List ℕ
policy_text = policy_of style script
