-- Proof that `published` meets its contract: the files are those of what was read, and the page has their number.
use Rattle.std.proofs.Common.{◌≡◌, ◌∙◌, List, ap, arith, inl, inr, length, map, refl, subst}
use Rattle.std.proofs.lemmas.List.{length-map}
use Rattle.publication.specs.Files.{FileEntry, file_entry}
use Rattle.publication.specs.Folder.{published}
use Rattle.tables.specs.declared.fault.Fault.TheVariants.{Memory}
use Rattle.desk.specs.Pages.{replied}
use Rattle.desk.specs.Publications.{Publishes, election_read, sealed_entry}
use Rattle.desk.specs.declared.lines.Failure.TheVariants.{Office}
use Rattle.desk.proofs.publishing.published.Goals as goal

pub returns-in-Err-published_text : goal.returns-in-Err-published_text
returns-in-Err-published_text g c = inr (inl (Office Memory, refl, inl refl, refl))

pub returns-in-Ok-publish_files : goal.returns-in-Ok-publish_files
returns-in-Ok-publish_files g c =
    let files = c.in-Ok.files.items in
    let wards = c.args.found.now.wards.items in
    let all = c.in-Ok.ensures.ok in
    let files_count : c.len-2.result ≡ length (published (election_read c.args.asked.title.now c.args.found.now)) =
    (let own : c.len-2.result ≡ length (map file_entry files) = omega (arith, length-map files file_entry) in own) ∙ ap length all in
    let wards_count : c.len.result ≡ length (map sealed_entry wards) = omega (arith, length-map wards sealed_entry) in
    inl (
      ap replied (rw (files_count, wards_count) at c.in-Ok-published_text.ensures),
      subst (λ (put : List FileEntry). Publishes (g.F.PublicFolder.held c.args.folder.now) (g.F.PublicFolder.held c.publish_files.new.folder) put)
          (ap (map file_entry) c.deref.ensures.value ∙ all) c.in-Ok-publish_files.ensures.ok,
    )
