-- What saving an owned queue answers. Assumes nothing.
pub mod Save
