use Rattle.sq_audit.proofs.laws.sound_is_as_told.Goals as goal

pub returns : goal.returns
returns c = λ o g jobs spot root family sound stands.
    let told = sound.known.logs spot root family stands in
    (told.0, told.1, told.2, (sound.start spot root family stands).told told.0 told.1 told.2)
