pub mod MasterFace
