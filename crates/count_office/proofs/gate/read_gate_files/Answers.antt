-- Proof that `read_gate_files` meets its contract: the codes are those that were read at the path, and the pages and their policies are those of their crates.
use Rattle.std.proofs.Common.{◌≡◌, ◌∙◌, ap, subst, sym, ℕ, List, Some}
use Rattle.std.specs.Prelude.{Option, option_map, string_bytes}
use Rattle.keying_page.specs.Page.{page_text, policy_text}
use Rattle.console_page.specs.Page.{page_text as console_text, policy_text as console_policy}
use Rattle.wire.specs.Gates.{PageEntry}
use Rattle.count_office.specs.Serving.{IsGateFor, gate_at, gate_with, page_with}
use Rattle.count_office.specs.declared.gate.GateFiles.{GateFiles}
use Rattle.count_office.proofs.gate.read_gate_files.Goals as goal

paged : (text policy its_text its_policy : List ℕ) → text ≡ its_text → policy ≡ its_policy → page_with text policy ≡ page_with its_text its_policy
paged text policy its_text its_policy page its = ap (λ (t : List ℕ). page_with t policy) page ∙ ap (λ (p : List ℕ). page_with its_text p) its

gated : (gate_files : GateFiles) → string_bytes gate_files.page ≡ page_text → string_bytes gate_files.policy ≡ policy_text
    → string_bytes gate_files.console ≡ console_text → string_bytes gate_files.console_policy ≡ console_policy
    → Some (gate_at gate_files) ≡ Some (gate_with gate_files.codes (page_with page_text policy_text) (page_with console_text console_policy))
gated gate_files page policy console its =
    let second : PageEntry = page_with (string_bytes gate_files.console) (string_bytes gate_files.console_policy) in
    ap (λ (p : PageEntry). Some (gate_with gate_files.codes p second)) (paged (string_bytes gate_files.page) (string_bytes gate_files.policy) page_text policy_text page policy)
    ∙ ap (λ (p : PageEntry). Some (gate_with gate_files.codes (page_with page_text policy_text) p))
    (paged (string_bytes gate_files.console) (string_bytes gate_files.console_policy) console_text console_policy console its)

pub returns-clause-gate : goal.returns-clause-gate
returns-clause-gate g c =
    let gate_files : GateFiles = record {
      codes = c.in_ok-codes.codes;
      page = c.in_ok-page.page;
      policy = c.in_ok-policy.policy;
      console = c.in_ok-console.console;
      console_policy = c.in_ok-console_policy.console_policy;
    } in
    subst (λ (path : Option _). IsGateFor (g.H.Host.codes_at c.args.host.now) (option_map (λ text. text.now) path) (Some (gate_at gate_files))) (sym c.in-Some.is)
    (c.in_ok-codes.codes, c.in_ok-codes.ensures, gated gate_files c.in_ok-page.ensures c.in_ok-policy.ensures c.in_ok-console.ensures c.in_ok-console_policy.ensures)
