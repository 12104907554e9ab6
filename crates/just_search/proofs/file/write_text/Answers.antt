-- The folder is made, and the text written; or a call is refused.
use Rattle.std.proofs.Common.{rules, ◌≡◌, [], ◌++◌, Ok, Err, option_map, refl, ◌∙◌, subst}
use Rattle.std.proofs.lemmas.List.{append-nil}
use Rattle.just_path.specs.Path.{text_of}
use Rattle.just_host_record.specs.declared.entry.HostFault.TheVariants as fault
use Rattle.just_search.specs.Files.{parent_of, Makes}
use Rattle.just_search.proofs.Materializing.{temp_stays, nothing_written, no_folder_made, all_written}
use Rattle.just_search.proofs.file.write_text.Goals as goal

pub returns-in-Ok : goal.returns-in-Ok
returns-in-Ok g c = record {
  written =
      let at : option_map text_of c.as_path.result ≡ parent_of c.args.config.now = search rules in
      let raw : Makes (g.H.Host.told c.args.host.now).world (g.H.Host.told c.temp_folder.new.self).world (option_map text_of c.as_path.result) (Ok c.in-Ok.folder) = search rules in
      all_written (g.H.Host.told c.args.host.now) (g.H.Host.told c.temp_folder.new.self) (g.H.Host.told c.write_file-written.new.host) (parent_of c.args.config.now) c.in-Ok.folder c.args.text.now c.args.working_directory c.args.made.now.items
      c.push_reserved.new.self.items c.write_file-written.result
      (subst (λ p. Makes (g.H.Host.told c.args.host.now).world (g.H.Host.told c.temp_folder.new.self).world p (Ok c.in-Ok.folder)) at raw) (search rules) (search rules) c.write_file-written.ensures.written c.write_file-written.ensures.entries;
}

pub returns-in-Err-NoMemory : goal.returns-in-Err-NoMemory
returns-in-Err-NoMemory g c = record {
  written =
      let raw : Makes (g.H.Host.told c.args.host.now).world (g.H.Host.told c.temp_folder.new.self).world (option_map text_of c.as_path.result) (Err fault.NoMemory) = search rules in
      let entries : (g.H.Host.told c.temp_folder.new.self).entries ≡ (g.H.Host.told c.args.host.now).entries ++ [] = search rules in
      nothing_written (g.H.Host.told c.args.host.now) (g.H.Host.told c.temp_folder.new.self) (parent_of c.args.config.now) c.args.text.now c.args.working_directory c.args.made.now.items c.reserve.new.self.items _
      (temp_stays (g.H.Host.told c.args.host.now).world (g.H.Host.told c.temp_folder.new.self).world (option_map text_of c.as_path.result) raw) (search rules) (entries ∙ append-nil (g.H.Host.told c.args.host.now).entries) refl;
}

pub returns-in-Err-Failed : goal.returns-in-Err-Failed
returns-in-Err-Failed g c = record {
  written =
      let at : option_map text_of c.as_path.result ≡ parent_of c.args.config.now = search rules in
      let raw : Makes (g.H.Host.told c.args.host.now).world (g.H.Host.told c.temp_folder.new.self).world (option_map text_of c.as_path.result) (Err (fault.Failed c.in-Err-Failed.call)) = search rules in
      no_folder_made (g.H.Host.told c.args.host.now) (g.H.Host.told c.temp_folder.new.self) (parent_of c.args.config.now) c.args.text.now c.args.working_directory c.args.made.now.items c.reserve.new.self.items
      (fault.Failed c.in-Err-Failed.call) _
      (subst (λ p. Makes (g.H.Host.told c.args.host.now).world (g.H.Host.told c.temp_folder.new.self).world p (Err (fault.Failed c.in-Err-Failed.call))) at raw) (search rules) (search rules) (search rules) (search rules);
}

pub returns : goal.returns
returns g c = record {
  written =
      let at : option_map text_of c.as_path.result ≡ parent_of c.args.config.now = search rules in
      let raw : Makes (g.H.Host.told c.args.host.now).world (g.H.Host.told c.temp_folder.new.self).world (option_map text_of c.as_path.result) (Err (fault.Missed c.in-Err-Missed.miss)) = search rules in
      no_folder_made (g.H.Host.told c.args.host.now) (g.H.Host.told c.temp_folder.new.self) (parent_of c.args.config.now) c.args.text.now c.args.working_directory c.args.made.now.items c.reserve.new.self.items
      (fault.Missed c.in-Err-Missed.miss) _
      (subst (λ p. Makes (g.H.Host.told c.args.host.now).world (g.H.Host.told c.temp_folder.new.self).world p (Err (fault.Missed c.in-Err-Missed.miss))) at raw) tt (search rules) (search rules) (search rules);
}
