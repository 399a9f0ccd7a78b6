-- Proof that `files_for` meets its contract.
use Rattle.std.proofs.Common.{◌≡◌, ◌∙◌, ap, map, rules, sym, true}
use Rattle.publication.specs.Election.{ascend_from}
use Rattle.publication.specs.Files.{file_entry}
use Rattle.publication.specs.Folder.{published}
use Rattle.sheet.specs.Index.{listed}
use Rattle.std.proofs.lemmas.Bool.{false≢true}
use Rattle.checker.specs.Folders.{election_of}
use Rattle.checker.specs.IndexPage.{PageEntry, row_entry}
use Rattle.checker.proofs.FolderLemmas.{election_published}
use Rattle.checker.proofs.PublishedLaws.{same_election, same_listing, same_order, same_pages}
use Rattle.checker.proofs.folder_election.files_for.Goals as goal

pub returns-in-Ok-clause-made : goal.returns-in-Ok-clause-made
returns-in-Ok-clause-made c =
    let election = c.in_ok-election.election in
    let ordered : ascend_from 0 (map (λ ward. (listed ward).number) election.listed.items) ≡ true = search rules in
    election_published c.as_str-text.result.now election (map file_entry c.in-Ok.files.items) c.in_ok-election.ensures.made ordered c.in-Ok.ensures.made

pub returns-then-not-are_in_order-clause-again : goal.returns-then-not-are_in_order-clause-again
returns-then-not-are_in_order-clause-again c = λ title wards files utf8 given page so.
    let election = c.in_ok-election.election in
    let rows = ap (map row_entry) c.deref.ensures.value ∙ ap (λ (p : PageEntry). p.rows) page in
    let made = c.in_ok-election.ensures.again wards given rows in
    let listing = same_listing c.as_str-text.result.now wards election made so.ordered in
    absurd (false≢true (c.if-not-are_in_order.ensures ∙ (ap (λ ls. ascend_from 0 (map (λ ward. (listed ward).number) ls)) c.deref-2.ensures.value ∙ listing)))

pub returns-in-Ok-clause-again : goal.returns-in-Ok-clause-again
returns-in-Ok-clause-again c = λ title wards files utf8 given page so.
    let election = c.in_ok-election.election in
    let text = c.as_str-text.result.now in
    let named : text ≡ title = c.as_str-text.ensures.value ∙ c.in_ok-title.ensures title (ap (λ (p : PageEntry). p.title) page) utf8 in
    let rows = ap (map row_entry) c.deref.ensures.value ∙ ap (λ (p : PageEntry). p.rows) page in
    let made = c.in_ok-election.ensures.again wards given rows in
    c.in-Ok.ensures.made ∙ (ap published (same_election text wards election made) ∙ (ap (λ t. published (election_of t wards)) named ∙ sym so.are))

pub returns-clause-again : goal.returns-clause-again
returns-clause-again c = λ title wards files utf8 given page so.
    let election = c.in_ok-election.election in
    let text = c.as_str-text.result.now in
    let rows = ap (map row_entry) c.deref.ensures.value ∙ ap (λ (p : PageEntry). p.rows) page in
    let made = c.in_ok-election.ensures.again wards given rows in
    c.in-Err.ensures.again (same_pages text wards election made) (same_order text wards election made so.ordered)
