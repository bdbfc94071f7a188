pub mod SceneText
pub mod Pages
